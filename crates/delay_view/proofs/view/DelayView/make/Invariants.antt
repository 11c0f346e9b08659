-- So many levels are made, each with nothing.
use Rattle.std.proofs.Common.{◌≡◌, ℕ, length, slice_get, Some}
use Rattle.delay_view.specs.Levels.{Level, empty_level}
use Rattle.delay_view.proofs.view.DelayView.make.Given as goal

abbrev pub invariant-loop : goal.invariant-loop
invariant-loop l = record {
  size : length l.levels.items ≡ l.counter;
  empty : (k : ℕ) (x : Level) → slice_get l.levels.items k ≡ Some x → x ≡ empty_level x.spare;
}
