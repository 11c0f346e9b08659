use Rattle.std.proofs.Common.{Some, refl}
use Rattle.broker_events.specs.declared.event.Event.TheVariants.{Look}
use Rattle.broker_events.specs.declared.said.Said.TheVariants as said
use Rattle.worker_turns.proofs.ActLemmas.{free_step}
use Rattle.pipe_stream.proofs.looking.look_at.Goals as goal

pub returns-clause-free : goal.returns-clause-free
returns-clause-free g c =
    free_step _ _ _ _ (Look c.args.awaits.number c.args.awaits.turn) (Some (said.Awaited c.look.result)) _ g.met.C.Calls.key_stays g.met.C.Calls.shown_moves
    c.look.ensures refl c.requires.free
