use Rattle.broker_core.proofs.QueryLemmas.{stops_at, counts_on}
use Rattle.broker_core.proofs.query.count_within.Goals as goal

pub returns-then-unit-left-clause-value : goal.returns-then-unit-left-clause-value
returns-then-unit-left-clause-value c records are =
    stops_at c.args.units.now records c.args.room c.loop-k.left c.loop-k.k _ are c.loop-k-test.true (c.loop-k.invariant records are) c.if-unit-left.true

pub loop-k-preserved : goal.loop-k-preserved
loop-k-preserved c records are =
    counts_on c.args.units.now records c.args.room c.loop-k.left c.loop-k.k _ are c.loop-k-test.true (c.loop-k.invariant records are) c.if-unit-left.false
