use Rattle.std.proofs.Common.{◌∙◌, sym}
use Rattle.core_log.proofs.SeenLemmas.{min_found}
use Rattle.broker_core.proofs.offsets.min_of.Goals as goal

pub returns-in-Some : goal.returns-in-Some
returns-in-Some c s are = min_found c.args.parts.now s c.args.topic.now c.args.queue c.in-Some.table c.min.result are (sym c.find.ensures ∙ c.in-Some.is) c.min.ensures.table
