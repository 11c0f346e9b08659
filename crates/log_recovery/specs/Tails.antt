-- What is kept of a log, so that the next record can be placed, or told from one that doesn't follow.
use Rattle.std.specs.Prelude.{◌≡◌, ℕ, ◌+◌, ◌≤◌, List, [], ◌∷◌, length, slice_get, Some}
use Rattle.record_codec.specs.Entry.{Entry}
use Rattle.record_codec.specs.Layout.{size}
use Rattle.record_codec.specs.declared.draft.Place.{Place}
use Rattle.log_model.specs.Bases.{Base}
use Rattle.log_model.specs.Log.{end_of}
use Rattle.log_model.specs.Queues.{queue_end}
use Rattle.log_recovery.specs.Counts.{count_in}
use Rattle.log_recovery.specs.declared.tail.LogTail.{LogTail}

-- the store time of the last record, or this one where there is none
abbrev pub store_from : ℕ → List Entry → ℕ
store_from now [] = now
store_from now (r ∷ log) = store_from r.store log

-- the store time of a log's last record, 0 where there is none
abbrev pub last_store : List Entry → ℕ
last_store log = store_from 0 log

-- The tail stands for the log that begins at this base: it has its end, the number of its records with those before the base,
-- its last store time, which none of its records passes, and the end of each queue.
pub record StandsFor (base : Base) (tail : LogTail) (log : List Entry) : Type 0 where
  pub end : tail.end ≡ end_of base log
  pub records : tail.records ≡ base.records + length log
  pub time : tail.stored ≡ last_store log
  pub latest : (k : ℕ) (r : Entry) → slice_get log k ≡ Some r → r.store ≤ tail.stored
  pub counts : (topic : List ℕ) (queue : ℕ) → count_in tail.counts topic queue ≡ queue_end base log topic queue

-- this record has this topic, queue, place and size
pub record IsPlacedAt (topic : List ℕ) (queue : ℕ) (at : Place) (n : ℕ) (r : Entry) : Type 0 where
  pub of_topic : r.topic ≡ topic
  pub of_queue : r.queue ≡ queue
  pub offset_is : r.offset ≡ at.offset
  pub store_is : r.store ≡ at.store
  pub size_is : size r ≡ n

-- a record of this queue with this place is the newest behind the log: the next of its queue, and not stored before the last
pub record ComesBehind (base : Base) (log : List Entry) (topic : List ℕ) (queue : ℕ) (at : Place) : Type 0 where
  pub next : at.queue_offset ≡ queue_end base log topic queue
  pub later : last_store log ≤ at.store
