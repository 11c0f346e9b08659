-- What contracts see of the rows of a log.
use Rattle.std.specs.Prelude.{ℕ, ◌+◌, ◌^◌, ◌≤◌, List, length}
use Rattle.chunks.specs.Lists.{Roomy}
use Rattle.pending_log.specs.declared.rows.Row.{Row}

-- the rows from this number on, and for how many more there is room
pub record RowTable : Type 0 where
  pub first : ℕ
  pub items : List Row
  pub spare : ℕ

-- those that chunks hold
abbrev pub table_of : ℕ → Roomy Row → RowTable
table_of first rows = record { first = first; items = rows.items; spare = rows.spare }

-- their numbers are those that a log can have
abbrev pub IsCounted : ℕ → Roomy Row → Type 0
IsCounted first rows = first + length rows.items ≤ 2 ^ 62
