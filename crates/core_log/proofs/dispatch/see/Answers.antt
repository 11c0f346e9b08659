use Rattle.std.proofs.Common.{◌≡◌, ap, subst, arith, ◌+◌, ◌-◌, ◌≤◌, Some, slice_get}
use Rattle.core_log.specs.Represents.{AreTablesOf}
use Rattle.core_log.proofs.SeeLemmas.{AreSeen, row_within, row_unseen, row_seen}
use Rattle.core_log.proofs.dispatch.see.Goals as goal

pub see-requires-clause-there : goal.see-requires-clause-there
see-requires-clause-there c =
    let some = c.requires.some in
    let log = some.0 in
    let same : c.loop-number.number - c.args.rows.now.first ≡ c.loop-number.number - log.base.records = ap (λ n. c.loop-number.number - n) some.1.first in
    row_within log c.args.rows.now (c.loop-number.number - log.base.records) c.at.result c.loop-number.queues some.1
    (subst (λ n. slice_get c.args.rows.now.items n ≡ Some c.at.result) same c.at.ensures) (c.loop-number.invariant log some.1 some.2 some.3)

pub see-requires-clause-some : goal.see-requires-clause-some
see-requires-clause-some c =
    let some = c.requires.some in
    let log = some.0 in
    let same : c.loop-number.number - c.args.rows.now.first ≡ c.loop-number.number - log.base.records = ap (λ n. c.loop-number.number - n) some.1.first in
    row_unseen log c.args.rows.now (c.loop-number.number - log.base.records) c.at.result c.loop-number.queues some.1
    (subst (λ n. slice_get c.args.rows.now.items n ≡ Some c.at.result) same c.at.ensures) (c.loop-number.invariant log some.1 some.2 some.3)

pub loop-number-preserved : goal.loop-number-preserved
loop-number-preserved c log of tabled tables =
    let same : c.loop-number.number - c.args.rows.now.first ≡ c.loop-number.number - log.base.records = ap (λ n. c.loop-number.number - n) of.first in
    let kept : log.base.records ≤ c.loop-number.number = (let first = of.first in let low = c.requires.kept in let up = c.loop-number.auto.number in omega (arith, first, low, up)) in
    subst (λ n. AreSeen log c.args.rows.now n c.see.new.self) (let e : (c.loop-number.number - log.base.records) + 1 ≡ (c.loop-number.number + 1) - log.base.records = omega (arith, kept) in e)
    (row_seen log c.args.rows.now (c.loop-number.number - log.base.records) c.at.result c.loop-number.queues c.see.new.self of
    (subst (λ n. slice_get c.args.rows.now.items n ≡ Some c.at.result) same c.at.ensures) c.see.ensures.table c.see.ensures.records (c.loop-number.invariant log of tabled tables))

pub returns : goal.returns
returns c log of tabled tables =
    let now = c.loop-number.invariant log of tabled tables in
    let at_end : c.loop-number.number ≡ c.args.to = omega (arith, c.loop-number-test.false, c.loop-number.auto.number-end c.requires.ordered) in
    (now.0, subst (λ n. AreTablesOf log.base log.records (n - log.base.records) c.loop-number.queues) at_end now.1)

pub loop-number-init : goal.loop-number-init
loop-number-init c log of tabled tables = (tabled, tables)
