-- What a call leaves of its store where the opening ended it.
use Rattle.std.specs.Prelude.{◌≡◌, ◌⊎◌, ℕ, List, codes}
use Rattle.mq_outside.specs.Files.{Files}
use Rattle.mq_outside.specs.Disk.{DiskState, Rests, Throughout}
use Rattle.record_codec.specs.Entry.{Entry}
use Rattle.log_model.specs.Bases.{Geometry, whole}
use Rattle.log_model.specs.Store.{IsDamagedAt, IsHonest, KeepsIfHonest, StoresLog}
use Rattle.log_model.specs.Stored.{HasFirst}
use Rattle.log_recovery.specs.declared.fault.RecoverFault.{RecoverFault}
use Rattle.config_store.specs.Faults.{IsBadText}
use Rattle.store_open.specs.Openings.{FORMAT, IsOpened, PutsOnly, StoreTold, own_format, store_told}
use Rattle.store_open.specs.declared.format.AskedSizes.{AskedSizes}
use Rattle.store_open.specs.declared.format.Sizes.{Sizes}
use Rattle.store_open.specs.declared.status.Status.{Status}
use Rattle.exit_status.specs.Statuses.{StatusTellsFault}

-- a store over a call: whether its disk and its keep tell what they hold, and what they held before the call and after it
pub record StoreOver : Type 1 where
  pub disk_tells : Type 0
  pub disk : DiskState
  pub disk_then : DiskState
  pub keep_tells : Type 0
  pub keep : DiskState
  pub keep_then : DiskState

abbrev pub store_over : Type 0 → DiskState → DiskState → Type 0 → DiskState → DiskState → StoreOver
store_over disk_tells disk disk_then keep_tells keep keep_then = record {
  disk_tells = disk_tells;
  disk = disk;
  disk_then = disk_then;
  keep_tells = keep_tells;
  keep = keep;
  keep_then = keep_then;
}

-- as it is told before the call
abbrev pub told_before : StoreOver → StoreTold
told_before store = store_told store.disk_tells store.disk.reads store.keep_tells store.keep.reads

-- ---- the log

-- What a crash left of a log, with its first `least` records: the files have these at their places, and recovery keeps a prefix with
-- these where the files are honest.
pub record Leaves (S : Geometry) (log : List Entry) (least : ℕ) (files : Files) : Type 0 where
  pub has : HasFirst S log least files
  pub keeps : KeepsIfHonest S log least files

-- From old to new, at each moment, a crash leaves what was flushed: of each log that the disk stored and was read of honestly.
abbrev pub LeavesFlushed : Geometry → DiskState → DiskState → Type 0
LeavesFlushed S old new = (log : List Entry) (flushed : ℕ) → StoresLog S log flushed old → IsHonest S log flushed old.reads
    → Throughout old new (Leaves S log flushed)

-- The log was not recovered. Status 8 reports where its files are damaged, and then nothing was changed. What was flushed stays.
pub record IsUnrecovered (S : Geometry) (tells : Type 0) (status : Status) (old new : DiskState) : Type 0 where
  pub fault : RecoverFault
  pub told : StatusTellsFault status fault
  pub damaged : tells → status.code ≡ 8 → IsDamagedAt S old.reads status.place status.name × Rests old new
  pub stores : tells → (log : List Entry) (flushed : ℕ) → StoresLog S log flushed old → IsHonest S log flushed old.reads
      → StoresLog S log flushed new
  pub leaves : tells → LeavesFlushed S old new

-- ---- how far the call came

-- The store was not opened: its format or its devices ended the call, and the disk is as it was.
pub record Refused (status : Status) (store : StoreOver) : Type 0 where
  pub refused : (status.code ≡ 5) ⊎ ((status.code ≡ 6) ⊎ ((status.code ≡ 7) ⊎ ((status.code ≡ 10) × (status.name ≡ codes "keep"))))
  pub still : store.disk_tells → Rests store.disk store.disk_then

-- The config files were not loaded: status 8 reports which of them isn't of its form. The disk is as it was.
pub record Misread (status : Status) (store : StoreOver) : Type 0 where
  pub why : ((status.code ≡ 8) × (status.place ≡ 0) × (store.keep_tells → IsBadText store.keep.reads status.name))
      ⊎ ((status.code ≡ 7) ⊎ ((status.code ≡ 10) × (status.name ≡ codes "keep")))
  pub still : store.disk_tells → Rests store.disk store.disk_then

-- The store was opened and its config files were loaded, but its log was not recovered.
pub record Unrecovered (asked : AskedSizes) (status : Status) (store : StoreOver) : Type 0 where
  pub sizes : Sizes
  pub opened_as : IsOpened asked sizes (told_before store) store.keep_then
  pub log : IsUnrecovered (whole sizes.segment) store.disk_tells status store.disk store.disk_then

-- At each moment the format is as it was before, or the right text, and no other text of the keep changes.
abbrev pub PutsFormat : AskedSizes → StoreOver → Type 0
PutsFormat asked store = store.keep_tells → PutsOnly (own_format (store.keep.reads FORMAT) asked) store.keep store.keep_then
