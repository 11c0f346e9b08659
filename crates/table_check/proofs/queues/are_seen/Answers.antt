use Rattle.std.proofs.Common.{refl, arith}
use Rattle.std.proofs.lemmas.Option.{slice_get_within}
use Rattle.delay_view.proofs.GrowthLemmas.{get_there}
use Rattle.table_check.proofs.queues.are_seen.Goals as goal

pub returns-then-not-is_seen : goal.returns-then-not-is_seen
returns-then-not-is_seen c = (
  λ f. cc f,
  λ seen.
      let below = c.loop-table-test.true in
      let count = c.requires in
      let t = get_there c.args.queues.now c.loop-table.table (omega (arith, below, count)) in
      let is = (c.is_seen.ensures t.0 t.1).1 (seen c.loop-table.table t.0 t.1) in
      cc (is, c.if-not-is_seen.true),
)

pub returns : goal.returns
returns c = (
  λ yes k t at.
      let within = slice_get_within c.args.queues.now k t at in
      let ends = c.loop-table-test.false in
      let count = c.requires in
      c.loop-table.invariant k t (omega (arith, within, ends, count)) at,
  λ seen. refl,
)
