-- When the half messages are due.
use Rattle.std.specs.Prelude.{◌≡◌, ℕ, ◌+◌, ◌-◌, ◌^◌, ◌<◌, ◌≤◌, ◌==◌, ◌&&◌, List, length, slice_get, Some, if◌then◌else◌}
use Rattle.half_view.specs.declared.row.HalfRow.{HalfRow}
use Rattle.half_view.specs.Halves.{is_open}

-- from when on the half message with this queue offset is due, as things stand
abbrev pub due_time : ℕ → HalfRow → ℕ
due_time own row = if (row.names == own) && is_open row.state then row.due else 2 ^ 64 - 1

-- Each half message has its time, and those behind them never come. Queue offsets and times stay small.
pub record AreTimed (low : ℕ) (rows : List HalfRow) (times : List ℕ) : Type 0 where
  pub small : low + length rows ≤ 2 ^ 62
  pub early : (k : ℕ) (row : HalfRow) → slice_get rows k ≡ Some row → row.due < 2 ^ 63
  pub room : length rows ≤ length times
  pub each : (k time : ℕ) (row : HalfRow) → slice_get rows k ≡ Some row → slice_get times k ≡ Some time → time ≡ due_time (low + k) row
  pub rest : (k time : ℕ) → length rows ≤ k → slice_get times k ≡ Some time → time ≡ 2 ^ 64 - 1
