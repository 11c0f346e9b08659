use Rattle.std.proofs.Common.{◌≡◌, ◌<◌, ◌^◌, ℕ, List, length}
use Rattle.mq_outside.specs.Covers.{AreOrdered, HasRange, HoldsRange}
use Rattle.mq_outside.proofs.frozen_ranges.find_in.Given as goal

-- the rest has the range, and what all pieces hold there
abbrev pub invariant-loop-rest : goal.invariant-loop-rest
invariant-loop-rest l = record {
  there : HasRange l.rest l.place l.size;
  ordered : (low : ℕ) × (high : ℕ) × AreOrdered low l.rest high × (high < 2 ^ 64);
  holds : (bytes : List ℕ) → length bytes ≡ l.size → HoldsRange l.pieces l.place bytes → HoldsRange l.rest l.place bytes;
}

abbrev pub decreases-loop-rest : goal.decreases-loop-rest
decreases-loop-rest l = length l.rest
