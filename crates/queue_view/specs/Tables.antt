-- What contracts see of the tables of the queues.
use Rattle.std.specs.Prelude.{ℕ, ◌+◌, ◌-◌, ◌==◌, ◌&&◌, ◌++◌, ◌∷◌, Bool, List, [], length, take, drop, map, Option, position}
use Rattle.std.specs.Str.{bytes_eq}
use Rattle.record_codec.specs.declared.unit.Unit.{Unit as QueueUnit}
use Rattle.queue_view.specs.declared.stored.StoredUnit.{StoredUnit}

-- A queue of a topic: how many of its units were removed, the units that stand, how many of these consumers see, and for
-- how many more there is room.
pub record Table : Type 0 where
  pub topic : List ℕ
  pub queue : ℕ
  pub low : ℕ
  pub units : List StoredUnit
  pub seen : ℕ
  pub spare : ℕ

-- a unit without its store time
abbrev pub unit_in : StoredUnit → QueueUnit
unit_in stored = stored.unit

-- the units that consumers see
abbrev pub seen_units : Table → List QueueUnit
seen_units t = map unit_in (take t.seen t.units)

-- the offset after the last unit that consumers see
abbrev pub max_of : Table → ℕ
max_of t = t.low + t.seen

-- the offset after the last unit
abbrev pub added_of : Table → ℕ
added_of t = t.low + length t.units

-- the table is that of this queue of the topic
abbrev pub is_of : List ℕ → ℕ → Table → Bool
is_of topic queue t = bytes_eq t.topic topic && (t.queue == queue)

-- the number of the queue's table
abbrev pub number_of : List Table → List ℕ → ℕ → Option ℕ
number_of tables topic queue = position (is_of topic queue) tables

-- a queue that had no records, but for `low` that were removed
abbrev pub empty_table : List ℕ → ℕ → ℕ → ℕ → Table
empty_table topic queue low spare = record { topic = topic; queue = queue; low = low; units = []; seen = 0; spare = spare }

-- the table with this much room
abbrev pub with_room : Table → ℕ → Table
with_room t spare = record t { spare = spare }

-- with one unit more, and then this much room
abbrev pub with_unit : Table → QueueUnit → ℕ → ℕ → Table
with_unit t unit store spare = record t { units = t.units ++ record { unit = unit; store = store } ∷ []; spare = spare }

-- with one unit more that consumers see
abbrev pub with_next_seen : Table → Table
with_next_seen t = record t { seen = t.seen + 1 }

-- without the units below this offset
abbrev pub cut_at : Table → ℕ → Table
cut_at t min = record t { low = min; units = drop (min - t.low) t.units; seen = t.seen - (min - t.low) }
