-- The times that were looked at are those of the half messages.
use Rattle.std.proofs.Common.{◌≡◌, ◌+◌, ◌-◌, ◌^◌, ◌<◌, ◌≤◌, ℕ, length, slice_get, Some}
use Rattle.half_view.specs.declared.row.HalfRow.{HalfRow}
use Rattle.half_view.specs.Due.{due_time}
use Rattle.half_view.proofs.rows.set_all.Given as goal

abbrev pub invariant-loop-k : goal.invariant-loop-k
invariant-loop-k l = record {
  size : length l.times ≡ length l.fn.times;
  each : (j time : ℕ) (row : HalfRow) → j < l.k → slice_get l.rows.items j ≡ Some row → slice_get l.times j ≡ Some time → time ≡ due_time (l.fn.low + j) row;
  rest : (j time : ℕ) → j < l.k → length l.rows.items ≤ j → slice_get l.times j ≡ Some time → time ≡ 2 ^ 64 - 1;
}
