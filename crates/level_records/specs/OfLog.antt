-- The delayed messages as those of a log of which the first d records were dispatched.
use Rattle.std.specs.Prelude.{◌≡◌, ℕ, ◌+◌, ◌-◌, ◌<◌, List, drop, length, slice_get, Some}
use Rattle.record_codec.specs.Entry.{Entry}
use Rattle.log_model.specs.Admissible.{level_topic}
use Rattle.log_model.specs.Delays.{progress}
use Rattle.log_model.specs.Numbered.{Log, queue_min, records_of}
use Rattle.delay_view.specs.Levels.{Level}
use Rattle.delay_view.specs.OfLog.{AreLevelsOf}
use Rattle.level_records.specs.Lines.{Line}
use Rattle.level_records.specs.declared.levels.Levels.{Levels}

-- the messages of a level, which is the number of its queue and one more, that weren't delivered
abbrev pub undelivered : Log → ℕ → List Entry
undelivered log queue = drop (progress log (queue + 1) - queue_min log level_topic queue) (records_of log level_topic queue)

-- each line has the messages of its level that weren't delivered
pub record AreWaitingOf (log : Log) (lines : List Line) : Type 0 where
  pub all : length lines ≡ 18
  pub each : (k : ℕ) (line : Line) → slice_get lines k ≡ Some line → line.messages ≡ undelivered log k

-- the levels are those of the log, and the messages that wait are kept whole
pub record HasLevels (log : Log) (d : ℕ) (levels : Levels) : Type 0 where
  pub view : AreLevelsOf log d levels.view
  pub waiting : AreWaitingOf log levels.waiting.items

-- there is room for one message more of this queue of the level topic
pub record HasRoomFor (levels : Levels) (queue : ℕ) : Type 0 where
  pub view : (l : Level) → slice_get levels.view queue ≡ Some l → 0 < l.spare
  pub line : (l : Line) → slice_get levels.waiting.items queue ≡ Some l → 0 < l.spare
