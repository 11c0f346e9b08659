-- How the table is kept.
use Rattle.std.specs.Prelude.{ℕ, ◌+◌, ◌-◌, ◌^◌, min, List, length, vec_len, vec_capacity, Vec}
use Rattle.std.specs.declared.alloc.Global.{Global}
use Rattle.half_view.specs.declared.row.HalfRow.{HalfRow}
use Rattle.half_view.specs.Halves.{HalfTable}

-- There is room where the rows and the times have room, and queue offsets stay small.
abbrev pub table_of : ℕ → Vec HalfRow Global → List ℕ → HalfTable
table_of low halves times = record {
  low = low;
  halves = halves.items;
  spare = min (vec_capacity halves - vec_len halves)
      (min (length times - length halves.items) (2 ^ 62 - (low + length halves.items)));
}
