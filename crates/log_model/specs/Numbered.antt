-- A log as its records are numbered: from the base on, the removed ones counted.
use Rattle.std.specs.Prelude.{ℕ, ◌+◌, ◌-◌, nat_lt, List, [], ◌∷◌, ◌++◌, length, take, drop, slice_get, Option, None, if◌then◌else◌}
use Rattle.record_codec.specs.Entry.{Entry}
use Rattle.record_codec.specs.Drafts.{entry_of, draft_size}
use Rattle.record_codec.specs.declared.draft.Draft.{Draft}
use Rattle.log_model.specs.Bases.{Base, geometry}
use Rattle.log_model.specs.Log.{end_of, place_after, IsWellFormed}
use Rattle.log_model.specs.Queues.{queue_of, queue_end}

-- a base, and the records that stand from it on
pub record Log : Type 0 where
  pub base : Base
  pub records : List Entry

-- each record may stand where it does, in segments of this size
abbrev pub IsLawful : ℕ → Log → Type 0
IsLawful segment log = IsWellFormed (geometry segment log.base) log.records

-- the number after the last record
abbrev pub count_of : Log → ℕ
count_of log = log.base.records + length log.records

-- the place after the last record
abbrev pub place_end : Log → ℕ
place_end log = end_of log.base log.records

-- the part of the log with numbers below n
abbrev pub below : Log → ℕ → Log
below log n = record { base = log.base; records = take (n - log.base.records) log.records }

-- the records with numbers from n on
abbrev pub records_from : Log → ℕ → List Entry
records_from log n = drop (n - log.base.records) log.records

-- the record with this number
abbrev pub record_at : Log → ℕ → Option Entry
record_at log n = if nat_lt n log.base.records then None else slice_get log.records (n - log.base.records)

-- with these records appended
abbrev pub with_appended : Log → List Entry → Log
with_appended log records = record { base = log.base; records = log.records ++ records }

-- ---- queues

-- the records of this queue that still stand
abbrev pub records_of : Log → List ℕ → ℕ → List Entry
records_of log topic queue = queue_of log.records topic queue

-- the offset of the first of them, and the offset after the last
abbrev pub queue_min : Log → List ℕ → ℕ → ℕ
queue_min log topic queue = log.base.queues topic queue

abbrev pub queue_max : Log → List ℕ → ℕ → ℕ
queue_max log topic queue = queue_end log.base log.records topic queue

-- the record at this offset of the queue
abbrev pub item_at : Log → List ℕ → ℕ → ℕ → Option Entry
item_at log topic queue offset =
    if nat_lt offset (queue_min log topic queue) then None else slice_get (records_of log topic queue) (offset - queue_min log topic queue)

-- ---- appending

-- the record of a draft after a log: at the next place, with the next queue offset of its queue
abbrev pub next_record : ℕ → ℕ → Log → Draft → Entry
next_record segment now log d =
    entry_of d (record {
      queue_offset = queue_max log d.topic d.queue;
      offset = place_after segment (place_end log) (draft_size d);
      store = now;
    })

-- the records of several drafts, one after the other
abbrev pub next_records : ℕ → ℕ → Log → List Draft → List Entry
next_records segment now log [] = []
next_records segment now log (d ∷ drafts) =
    next_record segment now log d ∷ next_records segment now (with_appended log (next_record segment now log d ∷ [])) drafts

-- ---- removal

-- the log without the records below a later base
abbrev pub above : Log → Base → Log
above log base = record { base = base; records = drop (base.records - log.base.records) log.records }
