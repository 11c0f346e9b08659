-- Tables that have what a log says.
use Rattle.std.specs.Prelude.{◌≡◌, ℕ, ◌+◌, List, length, map, slice_get, Some, None}
use Rattle.record_codec.specs.Entry.{Entry}
use Rattle.record_codec.specs.Units.{unit_of}
use Rattle.log_model.specs.Delays.{progress}
use Rattle.log_model.specs.Numbered.{Log, queue_min, queue_max}
use Rattle.log_model.specs.Queues.{queue_of}
use Rattle.queue_view.specs.Tables.{Table, number_of}
use Rattle.queue_view.specs.declared.stored.StoredUnit.{StoredUnit}
use Rattle.key_view.specs.Entries.{key_entries}
use Rattle.half_view.specs.OfLog.{AreHalvesOf}
use Rattle.delay_view.specs.Levels.{Level}
use Rattle.table_check.specs.declared.tables.Tables.{Tables}

-- ---- queues

-- what a table keeps of a record
abbrev pub stored_unit : Entry → StoredUnit
stored_unit r = record { unit = unit_of r; store = r.store }

-- what the tables of these records' queue keep
abbrev pub stored_units : List Entry → List ℕ → ℕ → List StoredUnit
stored_units records topic queue = map stored_unit (queue_of records topic queue)

-- the table has the minimum and the units that the log says of its queue
pub record IsQueueOf (log : Log) (t : Table) : Type 0 where
  pub low : t.low ≡ queue_min log t.topic t.queue
  pub units : t.units ≡ stored_units log.records t.topic t.queue

-- each table is the one that its queue is looked up as
abbrev pub AreApart : List Table → Type 0
AreApart tables = (k : ℕ) (t : Table) → slice_get tables k ≡ Some t → number_of tables t.topic t.queue ≡ Some k

-- each table is like that, and a queue without a table never had a record
pub record AreQueuesOf (log : Log) (tables : List Table) : Type 0 where
  pub each : (k : ℕ) (t : Table) → slice_get tables k ≡ Some t → IsQueueOf log t
  pub apart : AreApart tables
  pub none : (topic : List ℕ) (queue : ℕ) → number_of tables topic queue ≡ None → queue_max log topic queue ≡ 0

-- consumers see all units of each table
abbrev pub AreSeen : List Table → Type 0
AreSeen tables = (k : ℕ) (t : Table) → slice_get tables k ≡ Some t → t.seen ≡ length t.units

-- ---- all of it

-- each level has delivered as many messages as the log says
pub record HaveProgressOf (log : Log) (levels : List Level) : Type 0 where
  pub all : length levels ≡ 18
  pub each : (k : ℕ) (l : Level) → slice_get levels k ≡ Some l → l.copied ≡ progress log (k + 1)

-- the tables have what the log says
pub record AreTablesOf (log : Log) (tables : Tables) : Type 0 where
  pub queues : AreQueuesOf log tables.queues.now
  pub keys : tables.keys.now.entries ≡ key_entries log.records
  pub halves : AreHalvesOf log tables.halves.now
  pub levels : HaveProgressOf log tables.levels.now
