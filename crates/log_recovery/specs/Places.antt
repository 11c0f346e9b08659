-- Where the next record goes.
use Rattle.std.specs.Prelude.{ℕ, ◌+◌, ◌^◌, ◌≤◌, max, List}
use Rattle.record_codec.specs.Entry.{Entry}
use Rattle.record_codec.specs.declared.draft.Place.{Place}
use Rattle.log_model.specs.Bases.{Geometry}
use Rattle.log_model.specs.Log.{next_place}
use Rattle.log_model.specs.Queues.{queue_end}
use Rattle.log_recovery.specs.Tails.{last_store}

-- The place of the next record, of n bytes: the end of its queue, the next place of the log, and the clock's reading or the
-- last record's store time, whichever is the later.
abbrev pub place_behind : Geometry → List Entry → List ℕ → ℕ → ℕ → ℕ → Place
place_behind S log topic queue n reading = record {
  queue_offset = queue_end S.base log topic queue;
  offset = next_place S log n;
  store = max reading (last_store log);
}

-- a record of n bytes behind the log ends within the greatest place that a log has
abbrev pub HasRoom : Geometry → List Entry → ℕ → Type 0
HasRoom S log n = next_place S log n + n ≤ 2 ^ 62
