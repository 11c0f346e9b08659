use Rattle.std.proofs.Common.{◌∙◌, sym}
use Rattle.core_log.proofs.SeenLemmas.{max_found, max_unknown}
use Rattle.broker_core.proofs.offsets.max_of.Goals as goal

pub returns-in-Some : goal.returns-in-Some
returns-in-Some c s are = max_found c.args.parts.now s c.args.topic.now c.args.queue c.in-Some.table c.max.result are (sym c.find.ensures ∙ c.in-Some.is) c.max.ensures.table

pub returns-in-None : goal.returns-in-None
returns-in-None c s are = max_unknown c.args.parts.now s c.args.topic.now c.args.queue are (sym c.find.ensures ∙ c.in-None.is)
