use Rattle.std.proofs.Common.{arith, sym, subst, List}
use Rattle.mq_outside.specs.declared.frozen.Frozen.{Frozen}
use Rattle.mq_outside.specs.Covers.{AreOrdered}
use Rattle.mq_outside.proofs.frozen_ranges.FrozenRanges.find.Goals as goal

pub find_in-requires-clause-ordered : goal.find_in-requires-clause-ordered
find_in-requires-clause-ordered c =
    let ranges = c.args.self.now in
    (ranges.end, subst (λ (l : List Frozen). AreOrdered 0 l ranges.end) (sym c.as_slice.ensures.value) ranges.ordered, omega arith)
