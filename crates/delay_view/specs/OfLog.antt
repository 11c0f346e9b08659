-- The levels as those of a log of which the first d records were dispatched.
use Rattle.std.specs.Prelude.{◌≡◌, ◌≢◌, ◌≤◌, ℕ, true, false, ◌+◌, ◌-◌, List, [], map, length, take, count_by, slice_get, Some}
use Rattle.mq_bytes.specs.Delays.{level_delay}
use Rattle.record_codec.specs.Entry.{Entry}
use Rattle.log_model.specs.Admissible.{level_topic}
use Rattle.log_model.specs.Bases.{Base}
use Rattle.log_model.specs.Delays.{progress}
use Rattle.log_model.specs.Kinds.{is_delivery, is_delayed}
use Rattle.log_model.specs.Numbered.{Log, below, queue_min, records_of}
use Rattle.log_model.specs.Queues.{queue_of}
use Rattle.delay_view.specs.Levels.{Level}

-- when a message of a level is to be delivered
abbrev pub delivery_time : ℕ → Entry → ℕ
delivery_time level r = r.store + level_delay level

-- the table is that of the level
pub record IsLevelOf (log : Log) (d level : ℕ) (l : Level) : Type 0 where
  pub low : l.low ≡ queue_min log level_topic (level - 1)
  pub times : l.times ≡ map (delivery_time level) (records_of log level_topic (level - 1))
  pub seen : l.seen ≡ length (records_of (below log d) level_topic (level - 1))
  pub copied : l.copied ≡ progress log level

-- each table is that of its level
pub record AreLevelsOf (log : Log) (d : ℕ) (levels : List Level) : Type 0 where
  pub all : length levels ≡ 18
  pub each : (k : ℕ) (l : Level) → slice_get levels k ≡ Some l → IsLevelOf log d (k + 1) l

-- a log without records, from this base on
abbrev pub empty_log : Base → Log
empty_log base = record { base = base; records = [] }

-- What a removal of the log's first n records leaves to the levels: the later base counts these records, the delayed messages
-- among them and the deliveries too.
pub record CutsLevels (log : Log) (n : ℕ) (later : Base) : Type 0 where
  pub long : n ≤ length log.records
  pub records : later.records ≡ log.base.records + length (take n log.records)
  pub queues : (queue : ℕ)
      → later.queues level_topic queue ≡ log.base.queues level_topic queue + length (queue_of (take n log.records) level_topic queue)
  pub levels : (level : ℕ) → 1 ≤ level → level ≤ 18
      → later.levels level ≡ log.base.levels level + count_by (is_delivery level) (take n log.records)

-- ---- what one record is to the levels

-- a delayed message of this level
pub record IsMessageOf (level : ℕ) (r : Entry) : Type 0 where
  pub topic : r.topic ≡ level_topic
  pub queue : r.queue ≡ level - 1
  pub none : (other : ℕ) → is_delivery other r ≡ false

-- the delivery of a message of this level alone
pub record IsCopyOf (level : ℕ) (r : Entry) : Type 0 where
  pub plain : is_delayed r ≡ false
  pub delivers : is_delivery level r ≡ true
  pub none : (other : ℕ) → other ≢ level → is_delivery other r ≡ false

-- neither a delayed message nor a delivery
pub record IsOther (r : Entry) : Type 0 where
  pub plain : is_delayed r ≡ false
  pub none : (level : ℕ) → is_delivery level r ≡ false
