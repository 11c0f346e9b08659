-- All that a log says, as lists.
use Rattle.std.specs.Prelude.{◌≡◌, ℕ, ◌-◌, ◌≤◌, ◌==◌, ◌&&◌, not, Bool, List, [], ◌∷◌, map, filter, slice_index}
use Rattle.std.specs.List.{flat_map}
use Rattle.std.specs.Str.{bytes_eq}
use Rattle.record_codec.specs.declared.draft.Record.{Record}
use Rattle.record_codec.specs.declared.unit.Unit.{Unit as QueueUnit}
use Rattle.record_codec.specs.Entry.{Entry}
use Rattle.log_model.specs.declared.base.Base.{Base as Told}
use Rattle.log_model.specs.Delays.{progress}
use Rattle.log_model.specs.Keys.{index_keys}
use Rattle.log_model.specs.Queues.{entries_of, units_of}
use Rattle.log_replay.specs.declared.said.Replay.{Replay}
use Rattle.log_replay.specs.Told.{log_of, origin_states}

-- they have the same topic and queue
abbrev pub are_of_one_queue : Entry → Entry → Bool
are_of_one_queue a b = bytes_eq a.topic b.topic && (a.queue == b.queue)

-- the first record of each queue
abbrev pub first_records : List Entry → List Entry
first_records [] = []
first_records (r ∷ log) = r ∷ filter (λ later. not (are_of_one_queue r later)) (first_records log)

-- a record's queue, with the units that the log has of it
abbrev pub row_of : List Entry → Entry → List ℕ × ℕ × List QueueUnit
row_of log r = (r.topic, r.queue, units_of log r.topic r.queue)

-- each queue with its units, in the order of their first records
abbrev pub queues_in : List Entry → List (List ℕ × ℕ × List QueueUnit)
queues_in log = map (row_of log) (first_records log)

-- the hashes of a record's keys, each with the record's place and store time
abbrev pub entries_in : Entry → List (ℕ × ℕ × ℕ)
entries_in r = map (λ hash. (hash, r.offset, r.store)) (index_keys r)

-- those of each record, in the order of the log
abbrev pub key_entries : List Entry → List (ℕ × ℕ × ℕ)
key_entries log = flat_map entries_in log

-- the replay says what the log says, from this base on
pub record IsReplay (base : Told) (log : List Record) (replay : Replay) : Type 0 where
  pub queues : replay.queues ≡ queues_in (entries_of log)
  pub keys : replay.keys ≡ key_entries (entries_of log)
  pub halves : replay.halves ≡ origin_states (entries_of log)
  pub delays : (level : ℕ) → 1 ≤ level → level ≤ 18 → slice_index replay.delays (level - 1) ≡ progress (log_of base log) level
