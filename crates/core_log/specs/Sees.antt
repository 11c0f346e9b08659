-- A record that consumers see next.
use Rattle.std.specs.Prelude.{◌≡◌, ℕ, List, slice_get, Some}
use Rattle.record_codec.specs.Entry.{Entry}
use Rattle.log_model.specs.Numbered.{Log, IsLawful, record_at}
use Rattle.queue_view.specs.Tables.{Table}
use Rattle.level_records.specs.OfLog.{HasLevels}
use Rattle.level_records.specs.declared.levels.Levels.{Levels}

-- the record of this number is of the queue with this table, and the levels are those of the log with the records below it seen
pub record IsNextSeen (segment : ℕ) (log : Log) (d : ℕ) (r : Entry) (tables : List Table) (table : ℕ) (levels : Levels) : Type 0 where
  pub lawful : IsLawful segment log
  pub at : record_at log d ≡ Some r
  pub t : Table
  pub there : slice_get tables table ≡ Some t
  pub topic : r.topic ≡ t.topic
  pub queue : r.queue ≡ t.queue
  pub has : HasLevels log d levels
