-- How a table is kept.
use Rattle.std.specs.Prelude.{ℕ, ◌+◌, ◌-◌, ◌<◌, ◌≤◌, ◌^◌, min, List, length, String, string_bytes}
use Rattle.chunks.specs.Lists.{Roomy}
use Rattle.queue_view.specs.declared.stored.StoredUnit.{StoredUnit}
use Rattle.queue_view.specs.Tables.{Table}

-- the table of these parts: there is room where the chunks have room and the offsets stay small
abbrev pub table_of : {A : Type 0} → String A → ℕ → ℕ → Roomy StoredUnit → ℕ → Table
table_of topic queue low units seen = record {
  topic = string_bytes topic;
  queue = queue;
  low = low;
  units = units.items;
  seen = seen;
  spare = min units.spare (2 ^ 63 - 1 - (low + length units.items));
}

-- consumers see units that stand, and the offsets are small
pub record IsTable (low : ℕ) (units : List StoredUnit) (seen : ℕ) : Type 0 where
  pub within : seen ≤ length units
  pub small : low + length units < 2 ^ 63
