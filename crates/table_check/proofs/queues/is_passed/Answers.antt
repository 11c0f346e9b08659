use Rattle.std.proofs.Common.{arith}
use Rattle.delay_view.proofs.GrowthLemmas.{get_there}
use Rattle.table_check.proofs.QueueLemmas.{low_differs, min_of, passed_is}
use Rattle.table_check.proofs.queues.is_passed.Goals as goal

pub returns-then-low-min : goal.returns-then-low-min
returns-then-low-min c records t at has =
    let base = c.args.base.now in
    let min = min_of base t.topic c.topic.result.now t.queue c.queue.result c.bounds_of-min.result.0 c.bounds_of-min.ensures.minimum (c.topic.ensures t at) (c.queue.ensures t at) in
    (λ f. cc f, λ is. absurd (low_differs base records t c.min-low.result c.bounds_of-min.result.0 (c.min-low.ensures.table t at) min c.if-low-min.true is))

pub overflow_sub-result : goal.overflow_sub-result
overflow_sub-result c =
    let t = get_there c.args.queues.now c.args.table c.requires.there in
    let low = c.min-low.ensures.table t.0 t.1 in
    let added = c.added.ensures.table t.0 t.1 in
    omega (arith, low, added)

pub returns : goal.returns
returns c records t at has =
    let base = c.args.base.now in
    let min = min_of base t.topic c.topic.result.now t.queue c.queue.result c.bounds_of-min.result.0 c.bounds_of-min.ensures.minimum (c.topic.ensures t at) (c.queue.ensures t at) in
    passed_is base records t c.args.units c.min-low.result c.added.result c.bounds_of-min.result.0 (c.min-low.ensures.table t at) (c.added.ensures.table t at) min c.if-low-min.false has
