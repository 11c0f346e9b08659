-- The times that were looked at are taken over, and the others never come.
use Rattle.std.proofs.Common.{◌≡◌, ◌<◌, ◌≤◌, ◌-◌, ◌^◌, ℕ, length, slice_get, Some}
use Rattle.half_view.proofs.times.Times.grow.Given as goal

abbrev pub invariant-loop-k : goal.invariant-loop-k
invariant-loop-k l = record {
  longer : length l.self < length l.more;
  same : (j time : ℕ) → j < l.k → slice_get l.self j ≡ Some time → slice_get l.more j ≡ Some time;
  never : (j time : ℕ) → l.k ≤ j → slice_get l.more j ≡ Some time → time ≡ 2 ^ 64 - 1;
}
