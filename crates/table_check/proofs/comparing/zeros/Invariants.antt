-- The numbers so far are 0.
use Rattle.std.proofs.Common.{◌≡◌, ℕ, length, slice_get, Some}
use Rattle.table_check.proofs.comparing.zeros.Given as goal

abbrev pub invariant-loop : goal.invariant-loop
invariant-loop l = record {
  count : length l.numbers.items ≡ l.counter;
  zeros : (k n : ℕ) → slice_get l.numbers.items k ≡ Some n → n ≡ 0;
}
