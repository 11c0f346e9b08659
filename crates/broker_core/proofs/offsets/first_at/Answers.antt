use Rattle.std.proofs.Common.{◌∙◌, sym, ap, ℤ, rules, w64}
use Rattle.std.proofs.lemmas.Int.{to_z-of_z}
use Rattle.queue_view.specs.Searches.{first_from}
use Rattle.core_log.proofs.SeenLemmas.{rising, first_found, first_unknown}
use Rattle.broker_core.proofs.offsets.first_at.Goals as goal

pub search-requires-clause-rising : goal.search-requires-clause-rising
search-requires-clause-rising c = rising c.args.parts.now c.requires.0 c.args.topic.now c.args.queue c.in-Some.table c.requires.1 (sym c.find.ensures ∙ c.in-Some.is)

pub returns-in-Some : goal.returns-in-Some
returns-in-Some c s are = first_found c.args.parts.now s c.args.topic.now c.args.queue c.in-Some.table c.args.time c.search.result are (sym c.find.ensures ∙ c.in-Some.is)
    (λ t at. c.search.ensures.table t at ∙ ap (λ (z : ℤ). first_from z t) (to_z-of_z w64 c.args.time (search rules)))

pub returns-in-None : goal.returns-in-None
returns-in-None c s are = first_unknown c.args.parts.now s c.args.topic.now c.args.queue c.args.time are (sym c.find.ensures ∙ c.in-None.is)
