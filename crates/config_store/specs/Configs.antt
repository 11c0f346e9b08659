-- What the two kept files have, and what a replacement does to them.
use Rattle.std.specs.Prelude.{◌≡◌, ◌≢◌, ℕ, List, [], codes, All, Option, Some, None}
use Rattle.mq_outside.specs.Files.{Files, OldOrNew}
use Rattle.mq_outside.specs.Disk.{DiskState, IsCrashImage, IsDurable, Throughout}
use Rattle.broker_model.specs.Tables.{TopicRow, OffsetRow}
use Rattle.config_store.specs.Texts.{IsOffset, offsets_text_of, IsKeptTopic, topics_text_of}

-- the names of the two files
abbrev pub OFFSETS : List ℕ
OFFSETS = codes "consumerOffset.json"

abbrev pub TOPICS : List ℕ
TOPICS = codes "topics.json"

-- ---- what a file has

-- the text is that of these rows, each of which can be kept
pub record IsOffsetsText (text : List ℕ) (rows : List OffsetRow) : Type 0 where
  pub each : All IsOffset rows
  pub is : text ≡ offsets_text_of rows

pub record IsTopicsText (text : List ℕ) (rows : List TopicRow) : Type 0 where
  pub each : All IsKeptTopic rows
  pub is : text ≡ topics_text_of rows

-- what a file has: where it is absent, no rows
abbrev pub HasOffsets : Option (List ℕ) → List OffsetRow → Type 0
HasOffsets None rows = rows ≡ []
HasOffsets (Some text) rows = IsOffsetsText text rows

abbrev pub HasTopics : Option (List ℕ) → List TopicRow → Type 0
HasTopics None rows = rows ≡ []
HasTopics (Some text) rows = IsTopicsText text rows

-- the two files have these rows
pub record HasConfig (texts : Files) (offsets : List OffsetRow) (topics : List TopicRow) : Type 0 where
  pub offsets_are : HasOffsets (texts OFFSETS) offsets
  pub topics_are : HasTopics (texts TOPICS) topics

-- ---- replacements

-- each of the two files is as it was or has its new text, and each other one is as it was
pub record Replaces (offsets topics : List ℕ) (old new : Files) : Type 0 where
  pub offsets_are : OldOrNew offsets (old OFFSETS) (new OFFSETS)
  pub topics_are : OldOrNew topics (old TOPICS) (new TOPICS)
  pub others : (name : List ℕ) → name ≢ OFFSETS → name ≢ TOPICS → new name ≡ old name

-- a crash image of this keep, but that each of the two files may have its new text
abbrev pub IsImageReplaced : List ℕ → List ℕ → DiskState → Files → Type 0
IsImageReplaced offsets topics keep files = (before : Files) × IsCrashImage keep before × Replaces offsets topics before files

-- From old to new each of the two files is as it was or has its new text, and nothing else changed: as it is read, and in each
-- crash image of each moment.
pub record PutsConfig (offsets topics : List ℕ) (old new : DiskState) : Type 0 where
  pub reads : Replaces offsets topics old.reads new.reads
  pub at_each : Throughout old new (IsImageReplaced offsets topics old)

-- the two files have these texts, and stay so through a crash
pub record KeepsConfig (offsets topics : List ℕ) (keep : DiskState) : Type 0 where
  pub offsets_are : keep.reads OFFSETS ≡ Some offsets
  pub topics_are : keep.reads TOPICS ≡ Some topics
  pub offsets_stay : IsDurable OFFSETS keep
  pub topics_stay : IsDurable TOPICS keep
