use Rattle.pending_log.specs.declared.turn.Look.TheVariants as look
use Rattle.core_log.proofs.TurnLemmas.{looks_up}
use Rattle.core_log.proofs.parts.Parts.look.Goals as goal

pub returns-in-Flushed : goal.returns-in-Flushed
returns-in-Flushed c s are = looks_up c.args.self.now s c.args.number c.args.turn look.Flushed are c.in-Flushed.ensures.answer

pub returns-in-Failed : goal.returns-in-Failed
returns-in-Failed c s are = looks_up c.args.self.now s c.args.number c.args.turn (look.Failed c.in-Failed.count) are c.in-Failed.ensures.answer

pub returns-in-NotYet : goal.returns-in-NotYet
returns-in-NotYet c s are = looks_up c.args.self.now s c.args.number c.args.turn look.NotYet are c.in-NotYet.ensures.answer
