-- Rows of which the newest may stand apart from the chunks.
use Rattle.std.specs.Prelude.{◌≡◌, ℕ, ◌+◌, ◌-◌, ◌≤◌, ◌<◌, ◌++◌, vec_len, vec_capacity, Vec}
use Rattle.std.specs.declared.alloc.Global.{Global}
use Rattle.chunks.specs.Lists.{Roomy}
use Rattle.key_view.specs.declared.row.KeyRow.{KeyRow}

-- the rows of the chunks and behind them those that are apart; there is room in the chunks, and then behind those
abbrev pub rows_of : Roomy KeyRow → ℕ → Vec KeyRow Global → Roomy KeyRow
rows_of chunks ready apart =
    record { items = chunks.items ++ apart.items; spare = ready + (vec_capacity apart - vec_len apart) }

-- the chunks have that room, and none is used while rows are apart
pub record AreRows (chunks : Roomy KeyRow) (ready : ℕ) (apart : Vec KeyRow Global) : Type 0 where
  pub room : ready ≤ chunks.spare
  pub order : 0 < vec_len apart → ready ≡ 0
