-- What is put into the two kept files over any number of turns: texts of which something holds.
use Rattle.std.specs.Prelude.{◌≡◌, ◌≢◌, ◌⊎◌, ℕ, List, Option, Some}
use Rattle.mq_outside.specs.Files.{Files}
use Rattle.mq_outside.specs.Disk.{DiskState, IsCrashImage, IsDurable, Throughout}
use Rattle.config_store.specs.Configs.{OFFSETS, TOPICS}

-- there is such a text
abbrev pub HasSuch : (List ℕ → Type 0) → Option (List ℕ) → Type 0
HasSuch IsSuch new = (text : List ℕ) × (new ≡ Some text) × IsSuch text

-- each of the two files is as it was or has such a text, and each other one is as it was
pub record ReplacesBy (IsOffsets IsTopics : List ℕ → Type 0) (old new : Files) : Type 0 where
  pub offsets_are : (new OFFSETS ≡ old OFFSETS) ⊎ HasSuch IsOffsets (new OFFSETS)
  pub topics_are : (new TOPICS ≡ old TOPICS) ⊎ HasSuch IsTopics (new TOPICS)
  pub others : (name : List ℕ) → name ≢ OFFSETS → name ≢ TOPICS → new name ≡ old name

-- a crash image of this keep, but that each of the two files may have such a text
abbrev pub IsImageReplacedBy : (IsOffsets IsTopics : List ℕ → Type 0) → DiskState → Files → Type 0
IsImageReplacedBy IsOffsets IsTopics keep files = (before : Files) × IsCrashImage keep before × ReplacesBy IsOffsets IsTopics before files

-- From old to new each of the two files is as it was or has such a text, and nothing else changed: as it is read, and in each crash
-- image of each moment.
pub record PutsBy (IsOffsets IsTopics : List ℕ → Type 0) (old new : DiskState) : Type 0 where
  pub reads : ReplacesBy IsOffsets IsTopics old.reads new.reads
  pub at_each : Throughout old new (IsImageReplacedBy IsOffsets IsTopics old)

-- the two files have such texts, and keep them through a crash
pub record KeepsBy (IsOffsets IsTopics : List ℕ → Type 0) (keep : DiskState) : Type 0 where
  pub offsets_are : HasSuch IsOffsets (keep.reads OFFSETS)
  pub topics_are : HasSuch IsTopics (keep.reads TOPICS)
  pub offsets_stay : IsDurable OFFSETS keep
  pub topics_stay : IsDurable TOPICS keep
