-- What is known once first records of a log were gone through beside tables.
use Rattle.std.specs.Prelude.{◌≡◌, ℕ, ◌+◌, ◌<◌, ◌++◌, List, [], length, slice_get, Some, None, true, false}
use Rattle.record_codec.specs.Entry.{Entry}
use Rattle.log_model.specs.Delays.{progress}
use Rattle.log_model.specs.Kinds.{is_delivery}
use Rattle.log_model.specs.Numbered.{Log, IsLawful, count_of}
use Rattle.log_model.specs.Queues.{queue_of}
use Rattle.log_model.specs.Told.{base_of}
use Rattle.log_model.specs.declared.base.Base.{Base as Told}
use Rattle.queue_view.specs.Tables.{Table, number_of}
use Rattle.key_view.specs.Entries.{key_entries}
use Rattle.half_view.specs.OfLog.{AreHalvesOf}
use Rattle.table_check.specs.declared.comparing.Comparing.{Comparing}
use Rattle.table_check.specs.declared.replayed.Replayed.{Replayed}
use Rattle.table_check.specs.declared.tables.Tables.{Tables}
use Rattle.table_check.specs.Equal.{stored_units, AreApart, AreTablesOf}
use Rattle.table_check.specs.Fronts.{BeginsWith}

-- the log that has these records behind this base
abbrev pub log_from : Told → List Entry → Log
log_from base records = record { base = base_of base; records = records }

-- ---- queues

-- of a table so many units were passed, which are those of these records
pub record HasPassed (records : List Entry) (t : Table) (n : ℕ) : Type 0 where
  pub count : n ≡ length (queue_of records t.topic t.queue)
  pub units : BeginsWith t.units (stored_units records t.topic t.queue)

-- of each table so many, and a queue without a table has none of the records
pub record HavePassed (records : List Entry) (tables : List Table) (units : List ℕ) : Type 0 where
  pub apart : AreApart tables
  pub all : length units ≡ length tables
  pub each : (k : ℕ) (t : Table) (n : ℕ) → slice_get tables k ≡ Some t → slice_get units k ≡ Some n → HasPassed records t n
  pub none : (topic : List ℕ) (queue : ℕ) → number_of tables topic queue ≡ None → queue_of records topic queue ≡ []

-- the units and keys of these records were passed, so many
pub record ArePassed (records : List Entry) (tables : Tables) (units : List ℕ) (keys : ℕ) : Type 0 where
  pub queues : HavePassed records tables.queues.now units
  pub count : keys ≡ length (key_entries records)
  pub front : BeginsWith tables.keys.now.entries (key_entries records)

-- ---- half messages and levels

-- so many messages of each level were delivered
abbrev pub AreDelivered : Log → List ℕ → Type 0
AreDelivered log delivered = (k : ℕ) → k < 18 → slice_get delivered k ≡ Some (progress log (k + 1))

-- the record delivers no delayed message
abbrev pub DeliversNothing : Entry → Type 0
DeliversNothing r = (level : ℕ) → is_delivery level r ≡ false

-- what was replayed is what the records say, where they are a log
pub record IsReplayOf (log : Log) (replayed : Replayed) : Type 0 where
  pub number : replayed.number ≡ count_of log
  pub halves : (segment : ℕ) → IsLawful segment log → AreHalvesOf log replayed.halves
  pub delivered : (segment : ℕ) → IsLawful segment log → AreDelivered log replayed.delivered

-- ---- all of it

-- the tables begin with what these records say
pub record HasGone (records : List Entry) (c : Comparing) : Type 0 where
  pub passed : ArePassed records c.tables c.units.items c.keys
  pub replayed : IsReplayOf (log_from c.base.now records) c.replayed

-- whatever more records come, the tables haven't what the log says
abbrev pub HasFailed : List Entry → Comparing → Type 0
HasFailed records c = (more : List Entry) → AreTablesOf (log_from c.base.now (records ++ more)) c.tables → ⊥

-- the tables were gone through beside these records
pub record IsBeside (records : List Entry) (c : Comparing) : Type 0 where
  pub same : c.is_equal ≡ true → HasGone records c
  pub other : c.is_equal ≡ false → HasFailed records c

-- of the same tables and base
pub record IsOfSame (old new : Comparing) : Type 0 where
  pub tables : new.tables ≡ old.tables
  pub base : new.base ≡ old.base
