use Rattle.std.proofs.Common.{◌≡◌, ◌∙◌, ⊎_elim, sym, ap, refl, arith, true, false, suc, ◌<◌, ◌≤◌, leb, slice_get, Some}
use Rattle.std.proofs.lemmas.Bool.Decides.{leb_tells}
use Rattle.std.proofs.lemmas.Option.{slice_get_within}
use Rattle.delay_view.proofs.GrowthLemmas.{get_there}
use Rattle.table_check.proofs.QueueLemmas.{unit_there}
use Rattle.table_check.proofs.RemovedLemmas.{row_differs, none_lost}
use Rattle.table_check.proofs.queues.are_passed.Goals as goal

pub returns-then-lacks_removed : goal.returns-then-lacks_removed
returns-then-lacks_removed c records have = (
  λ f. cc f,
  λ are. absurd (row_differs c.args.base.now records c.args.queues.now (sym c.lacks_removed.ensures ∙ c.if-lacks_removed.true) are),
)

pub returns-then-not-is_passed : goal.returns-then-not-is_passed
returns-then-not-is_passed c records have = (
  λ f. cc f,
  λ are.
      let below = c.loop-table-test.true in
      let count = c.requires.count in
      let all = have.all in
      let t = get_there c.args.queues.now c.loop-table.table (omega (arith, below, count)) in
      let n = unit_there c.args.units.now.items c.loop-table.table c.index.result.now (omega (arith, below, count, all)) c.index.ensures in
      let is = (c.is_passed.ensures records t.0 t.1 (have.each c.loop-table.table t.0 c.index.result.now t.1 n)).1 (are.each c.loop-table.table t.0 t.1) in
      cc (is, c.if-not-is_passed.true),
)

pub loop-table-preserved : goal.loop-table-preserved
loop-table-preserved c records have k t within at =
    let below = c.loop-table-test.true in
    let count = c.requires.count in
    let all = have.all in
    ⊎_elim
    (λ (before : (leb (suc k) c.loop-table.table ≡ true) × (suc k ≤ c.loop-table.table)). c.loop-table.invariant records have k t before.1 at)
    (λ (last : (leb (suc k) c.loop-table.table ≡ false) × (c.loop-table.table < suc k)).
    let high = last.1 in
    let same : k ≡ c.loop-table.table = omega (arith, high, within) in
    let here : slice_get c.args.queues.now c.loop-table.table ≡ Some t = ap (slice_get c.args.queues.now) (sym same) ∙ at in
    let n = unit_there c.args.units.now.items c.loop-table.table c.index.result.now (omega (arith, below, count, all)) c.index.ensures in
    (c.is_passed.ensures records t here (have.each c.loop-table.table t c.index.result.now here n)).0 c.if-not-is_passed.false)
    (leb_tells (suc k) c.loop-table.table)

pub returns : goal.returns
returns c records have = (
  λ yes. record {
    each = λ k t at.
        let within = slice_get_within c.args.queues.now k t at in
        let ends = c.loop-table-test.false in
        let count = c.requires.count in
        c.loop-table.invariant records have k t (omega (arith, within, ends, count)) at;
    apart = have.apart;
    none = none_lost c.args.base.now records c.args.queues.now c.args.units.now.items have (sym c.lacks_removed.ensures ∙ c.if-lacks_removed.false);
  },
  λ are. refl,
)
