-- What was loaded of a log, told by its records, and when the broker may open over it.
use Rattle.std.specs.Prelude.{◌≡◌, ℕ, ◌+◌, ◌<◌, ◌^◌, max, List, [], codes, slice_get, All, true, Option, Some, None, if◌then◌else◌}
use Rattle.std.specs.Str.{bytes_eq}
use Rattle.std.specs.Str.Parse.{digits_value}
use Rattle.mq_outside.specs.declared.frozen_ranges.FrozenRanges.{FrozenRanges}
use Rattle.record_codec.specs.Entry.{Entry}
use Rattle.record_codec.specs.Layout.{is_legal}
use Rattle.record_codec.specs.Props.{value_of}
use Rattle.log_model.specs.Admissible.{is_system_topic}
use Rattle.log_model.specs.Bases.{no_base}
use Rattle.log_model.specs.Drafts.{text_in}
use Rattle.log_model.specs.Log.{end_of}
use Rattle.log_model.specs.Numbered.{Log, IsLawful, count_of}
use Rattle.log_model.specs.Transactions.{last_of}
use Rattle.pending_log.specs.Rows.{AreRowsOf}
use Rattle.broker_model.specs.State.{Saved}
use Rattle.broker_model.specs.Tables.{TopicRow, OffsetRow, queues_in}
use Rattle.broker_model.specs.Lawful.{IsTopic}
use Rattle.broker_model.specs.Run.{store_time, with_topics_of, cut_offsets}
use Rattle.broker_events.specs.declared.event.Setup.{Setup}
use Rattle.client_tables.specs.Counts.{queues_of}
use Rattle.group_tables.specs.Held.{lock_of}
use Rattle.group_tables.specs.Offsets.{HasOffsets, IsOffset}
use Rattle.half_records.specs.OfLog.{HasHalves}
use Rattle.key_view.specs.Entries.{key_entries}
use Rattle.level_records.specs.OfLog.{HasLevels}
use Rattle.core_log.specs.declared.loaded.Loaded.{Loaded}
use Rattle.core_log.specs.Represents.{AreTabled, AreTablesOf, AreCovered, IsNamed}

-- the log that has these records and begins at place 0
abbrev pub whole_log : List Entry → Log
whole_log records = record { base = no_base; records = records }

-- ---- topics

-- a row of a topic
abbrev pub topic_row : List ℕ → ℕ → TopicRow
topic_row topic queues = record { topic = topic; queues = queues }

-- how many queues a topic has once it has this one: one that wasn't known has 4 or more
abbrev pub count_with : Option ℕ → ℕ → ℕ
count_with None queue = max 4 (queue + 1)
count_with (Some n) queue = max n (queue + 1)

-- the numbers of queues of all topics once this one has this queue
abbrev pub known_with : (List ℕ → Option ℕ) → List ℕ → ℕ → List ℕ → Option ℕ
known_with counts topic queue other = if bytes_eq topic other then Some (count_with (counts topic) queue) else counts other

-- the same, where the broker's own topics are left out
abbrev pub own_with : (List ℕ → Option ℕ) → List ℕ → ℕ → List ℕ → Option ℕ
own_with counts topic queue other = if is_system_topic topic then counts other else known_with counts topic queue other

-- the same where the record is for another topic than its own, which has the queue that the record names
abbrev pub real_with : (List ℕ → Option ℕ) → Option (List ℕ) → Entry → List ℕ → Option ℕ
real_with counts None r other = counts other
real_with counts (Some topic) r other = own_with counts topic (digits_value 10 (text_in (codes "REAL_QID") r.props)) other

-- ---- what was loaded

-- where the record is for another topic than its own, that has a legal name, and the queue that it is for is one of 1,024
abbrev pub IsForLegalTopic : Entry → Type 0
IsForLegalTopic r = (topic : List ℕ) → value_of (codes "REAL_TOPIC") r.props ≡ Some topic
    → (is_legal topic ≡ true) × (digits_value 10 (text_in (codes "REAL_QID") r.props) < 1024)

-- each of them is like this
abbrev pub AreForLegalTopics : List Entry → Type 0
AreForLegalTopics records = (k : ℕ) (r : Entry) → slice_get records k ≡ Some r → IsForLegalTopic r

-- These records were loaded, before them these topics, of clients, and behind them these offsets, each at most the end of its
-- queue. Consumers see none of the records yet. The half and delayed messages are kept where the records are a log.
pub record IsLoadedWith (saved : List TopicRow) (records : List Entry) (kept : List OffsetRow) (loaded : Loaded) : Type 0 where
  pub rows : AreRowsOf (whole_log records) loaded.rows
  pub tabled : AreTabled loaded.queues records loaded.rows.items
  pub queues : AreTablesOf no_base records 0 loaded.queues
  pub topics : (topic : List ℕ) → queues_of loaded.topics topic ≡ queues_in (with_topics_of records saved) topic
  pub plain : All IsTopic saved
  pub names : All IsNamed saved
  pub real : AreForLegalTopics records
  pub halves : (segment : ℕ) → IsLawful segment (whole_log records) → HasHalves (whole_log records) loaded.halves
  pub levels : (segment : ℕ) → IsLawful segment (whole_log records) → HasLevels (whole_log records) 0 loaded.levels
  pub keys : loaded.keys.entries ≡ key_entries records
  pub end : loaded.end ≡ end_of no_base records
  pub store : loaded.store ≡ store_time (last_of records)
  pub low : loaded.store < 2 ^ 62
  pub offsets : HasOffsets loaded.groups (cut_offsets (whole_log records) kept)
  pub locks : (group topic : List ℕ) (queue : ℕ) → lock_of loaded.groups group topic queue ≡ None
  pub rows_kept : All IsOffset kept

-- the same, before any offset was loaded
abbrev pub IsLoadedFrom : List TopicRow → List Entry → Loaded → Type 0
IsLoadedFrom saved records loaded = IsLoadedWith saved records [] loaded

-- ---- when the broker may open

-- The broker may open with these kept files over these records: they are a lawful log, which was loaded with the kept topics and
-- offsets, the pieces cover it, and nothing was removed.
pub record MayOpen (setup : Setup) (saved : Saved) (records : List Entry) (loaded : Loaded) (stored : FrozenRanges) : Type 0 where
  pub lawful : IsLawful setup.segment (whole_log records)
  pub of_log : IsLoadedWith saved.topics records saved.offsets loaded
  pub covered : AreCovered stored (whole_log records) (count_of (whole_log records))
  pub base : saved.base ≡ no_base
