use Rattle.std.proofs.Common.{arith}
use Rattle.broker_core.proofs.QueryLemmas.{seen_to_row, seen_all}
use Rattle.broker_core.proofs.query.seen_end.Goals as goal

pub at-requires-clause-from : goal.at-requires-clause-from
at-requires-clause-from c =
    let are = c.requires.1 in
    let first = are.rows.first in
    let dispatched = are.numbers.dispatched in
    let base = are.state.base in
    omega (arith, first, dispatched, base)

pub returns-then-parts-end : goal.returns-then-parts-end
returns-then-parts-end c s are = seen_to_row c.args.parts.now s c.at.result are c.at.ensures

pub returns-else-parts-end : goal.returns-else-parts-end
returns-else-parts-end c s are =
    let end = c.end.ensures.value in
    let past = c.if-parts-end.false in
    seen_all c.args.parts.now s are (omega (arith, end, past))
