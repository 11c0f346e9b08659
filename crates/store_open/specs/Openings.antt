-- The opening of a store: which sizes it has, and when it is foreign.
use Rattle.std.specs.Prelude.{◌≡◌, ◌⊎◌, ℕ, List, codes, Option, Some, None, slice_get}
use Rattle.mq_outside.specs.Counts.{Rises}
use Rattle.mq_outside.specs.Files.{Files, Lists, At, OldOrNew}
use Rattle.mq_outside.specs.Disk.{DiskState, IsCrashImage, IsDurable, Throughout}
use Rattle.store_open.specs.declared.format.Sizes.{Sizes}
use Rattle.store_open.specs.declared.format.AskedSizes.{AskedSizes}
use Rattle.store_open.specs.Formats.{format_text, new_sizes, IsFormatFor}
use Rattle.store_open.specs.declared.status.Status.{Status}

-- the name of the text that says the store's format
abbrev pub FORMAT : List ℕ
FORMAT = codes "format"

-- the name is that of the first of the files, in byte order
pub record IsFirstFile (files : Files) (name : List ℕ) : Type 0 where
  pub names : List (List ℕ)
  pub listed : Lists files names
  pub first : slice_get names 0 ≡ Some name

-- the sizes of a store: without a format those that were asked for, and the defaults for the rest, else those that the format says
abbrev pub AreSizesOf : Option (List ℕ) → AskedSizes → Sizes → Type 0
AreSizesOf None asked sizes = sizes ≡ new_sizes asked
AreSizesOf (Some text) asked sizes = IsFormatFor text asked sizes

-- the format behind the opening: that of a new store, or the one that stood there
abbrev pub format_after : Option (List ℕ) → Sizes → List ℕ
format_after None sizes = format_text sizes
format_after (Some text) sizes = text

-- the one text that an opening puts under the name: that of a new store, or the one that stands there
abbrev pub own_format : Option (List ℕ) → AskedSizes → List ℕ
own_format None asked = format_text (new_sizes asked)
own_format (Some text) asked = text

-- a crash image of this keep, but that the format may have become this text
abbrev pub IsImageWith : List ℕ → DiskState → Files → Type 0
IsImageWith text keep files = (before : Files) × IsCrashImage keep before × At FORMAT (OldOrNew text) before files

-- From old to new nothing of the keep changed but that the format may have become this text: as it is read, and in each crash
-- image of each moment.
pub record PutsOnly (text : List ℕ) (old new : DiskState) : Type 0 where
  pub reads : At FORMAT (OldOrNew text) old.reads new.reads
  pub at_each : Throughout old new (IsImageWith text old)

-- The store is foreign: it has no format, and this file stands in it; or `format` is none, or of other sizes than were asked for.
abbrev pub IsForeign : Files → Option (List ℕ) → AskedSizes → List ℕ → Type 0
IsForeign files None asked name = IsFirstFile files name
IsForeign files (Some text) asked name = (name ≡ FORMAT) × ((sizes : Sizes) → IsFormatFor text asked sizes → ⊥)

-- a store as it is told: whether the disk tells its files, and these; whether the keep tells its texts, and these
pub record StoreTold : Type 1 where
  pub disk : Type 0
  pub files : Files
  pub keep : Type 0
  pub texts : Files

abbrev pub store_told : Type 0 → Files → Type 0 → Files → StoreTold
store_told disk files keep texts = record { disk = disk; files = files; keep = keep; texts = texts }

-- This store was opened with these sizes, and the keep is this then: the store is not foreign, its format stands, and stays through a
-- crash. What is said of the disk and of the keep is said where these tell what they hold.
pub record IsOpened (asked : AskedSizes) (sizes : Sizes) (store : StoreTold) (keep : DiskState) : Type 0 where
  pub sizes_are : store.keep → AreSizesOf (store.texts FORMAT) asked sizes
  pub own : store.disk → store.keep → (name : List ℕ) → IsForeign store.files (store.texts FORMAT) asked name → ⊥
  pub stands : store.keep → keep.reads FORMAT ≡ Some (format_after (store.texts FORMAT) sizes)
  pub stays : store.keep → IsDurable FORMAT keep

-- the counts of the disk and of the keep
abbrev pub OpeningCause : Status → ℕ → ℕ → ℕ → ℕ → Type 0
OpeningCause status disk disk_then keep keep_then =
    ((status.code ≡ 5) × Rises disk disk_then) ⊎ ((status.code ≡ 6) ⊎ ((status.code ≡ 7)
    ⊎ ((status.code ≡ 10) × (status.name ≡ codes "keep") × Rises keep keep_then)))
