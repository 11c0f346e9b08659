use Rattle.broker_core.proofs.QueryLemmas.{taken_some, taken_none}
use Rattle.broker_core.proofs.query.count_taken.Goals as goal

pub returns-in-Some : goal.returns-in-Some
returns-in-Some c records are =
    taken_some c.args.units.now records c.in-Some.first.now c.in-Some.rest.now _ _ c.in-Some.ensures.cases.0 are c.saturating_sub.ensures c.count_within.ensures.value

pub returns-in-None : goal.returns-in-None
returns-in-None c records are = taken_none c.args.units.now records c.in-None.ensures.cases are
