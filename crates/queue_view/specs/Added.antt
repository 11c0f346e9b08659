-- The tables as those of a list of records: what each has, told by filters of the whole list.
use Rattle.std.specs.Prelude.{◌≡◌, ℕ, ◌+◌, ◌==◌, ◌&&◌, Bool, List, [], map, filter, length, take, slice_get, Some, None, if◌then◌else◌}
use Rattle.std.specs.Str.{bytes_eq}
use Rattle.record_codec.specs.declared.unit.Unit.{Unit as QueueUnit}
use Rattle.queue_view.specs.declared.stored.StoredUnit.{StoredUnit}
use Rattle.queue_view.specs.Tables.{Table, number_of, cut_at}

-- a record as the tables see it
pub record Added : Type 0 where
  pub topic : List ℕ
  pub queue : ℕ
  pub unit : QueueUnit
  pub store : ℕ

-- a record of a table's queue
abbrev pub added_to : Table → QueueUnit → ℕ → Added
added_to t unit store = record { topic = t.topic; queue = t.queue; unit = unit; store = store }

-- the record is of the table's queue
pub record IsRecordOf (t : Table) (a : Added) : Type 0 where
  pub topic : a.topic ≡ t.topic
  pub queue : a.queue ≡ t.queue

-- its unit with its store time
abbrev pub stored_of : Added → StoredUnit
stored_of a = record { unit = a.unit; store = a.store }

-- the record is of this queue of the topic
abbrev pub is_in : List ℕ → ℕ → Added → Bool
is_in topic queue a = bytes_eq a.topic topic && (a.queue == queue)

-- the units of this queue of the topic, in the order of the records
abbrev pub queue_in : List Added → List ℕ → ℕ → List StoredUnit
queue_in added topic queue = map stored_of (filter (is_in topic queue) added)

-- The table is that of its queue among these records, which come after `low` of each queue; consumers see those among the first n.
pub record IsTableOf (low : List ℕ → ℕ → ℕ) (added : List Added) (n : ℕ) (t : Table) : Type 0 where
  pub first : t.low ≡ low t.topic t.queue
  pub units : t.units ≡ queue_in added t.topic t.queue
  pub seen : t.seen ≡ length (queue_in (take n added) t.topic t.queue)

-- Each table is that of its queue, by which it is found, and a queue that has no table has no records.
pub record AreTablesOf (low : List ℕ → ℕ → ℕ) (added : List Added) (n : ℕ) (tables : List Table) : Type 0 where
  pub each : (k : ℕ) (t : Table) → slice_get tables k ≡ Some t → IsTableOf low added n t
  pub found : (k : ℕ) (t : Table) → slice_get tables k ≡ Some t → number_of tables t.topic t.queue ≡ Some k
  pub none : (topic : List ℕ) (queue : ℕ) → number_of tables topic queue ≡ None → (low topic queue ≡ 0) × (queue_in added topic queue ≡ [])

-- so many were removed of one queue, and of the others as many as `low` tells
abbrev pub with_low : (List ℕ → ℕ → ℕ) → List ℕ → ℕ → ℕ → List ℕ → ℕ → ℕ
with_low low topic queue min other at = if bytes_eq topic other && (queue == at) then min else low other at

-- of each queue as many were removed as `low` tells, and these records too
abbrev pub AreLowAfter : (List ℕ → ℕ → ℕ) → List Added → (List ℕ → ℕ → ℕ) → Type 0
AreLowAfter low gone later = (topic : List ℕ) (queue : ℕ) → later topic queue ≡ low topic queue + length (queue_in gone topic queue)

-- the table without the units below its queue's number
abbrev pub cut_to : (List ℕ → ℕ → ℕ) → Table → Table
cut_to later t = cut_at t (later t.topic t.queue)
