-- What a run of `serve` leaves of its store where no links were served.
use Rattle.std.specs.Prelude.{◌≡◌, ◌⊎◌, ℕ, ◌≤◌, List, length, take, codes}
use Rattle.mq_outside.specs.Files.{Files}
use Rattle.mq_outside.specs.Disk.{DiskState, Rests}
use Rattle.record_codec.specs.Entry.{Entry}
use Rattle.log_model.specs.Bases.{Geometry, whole}
use Rattle.log_model.specs.Store.{IsHonest, Keeps, StoresLog}
use Rattle.store_open.specs.Openings.{IsOpened}
use Rattle.store_open.specs.ServeWords.{IsServeCommand}
use Rattle.store_open.specs.declared.format.AskedSizes.{AskedSizes}
use Rattle.store_open.specs.declared.format.Sizes.{Sizes}
use Rattle.store_open.specs.declared.serve_words.ServeCommand.{ServeCommand}
use Rattle.store_open.specs.declared.status.Status.{Status}
use Rattle.exit_status.specs.Statuses.{TellsDevice}
use Rattle.exit_status.specs.Stores.{IsUnrecovered, LeavesFlushed, Misread, PutsFormat, Refused, StoreOver, Unrecovered, told_before}

-- ---- the log

-- The disk stores a prefix of this log with all that was flushed, and all of it is flushed now. It is what recovery keeps of these
-- files.
pub record StoresKept (S : Geometry) (log : List Entry) (flushed : ℕ) (files : Files) (disk : DiskState) : Type 0 where
  pub number : ℕ
  pub low : flushed ≤ number
  pub high : number ≤ length log
  pub keeps : Keeps S (take number log) files
  pub stores : StoresLog S (take number log) number disk

-- The log was opened, and no links were served: no reader could be made, or the door or the poll failed, or there was no memory. It is
-- what recovery keeps of the files. A log that the disk stored, and was read of honestly, is stored up to there; at each moment a crash
-- leaves what was flushed.
pub record IsUnused (S : Geometry) (tells : Type 0) (status : Status) (old new : DiskState) : Type 0 where
  pub why : (status.code ≡ 5) ⊎ TellsDevice status (codes "door")
  pub kept : tells → (records : List Entry) × Keeps S records old.reads
  pub stores : tells → (log : List Entry) (flushed : ℕ) → StoresLog S log flushed old → IsHonest S log flushed old.reads
      → StoresKept S log flushed old.reads new
  pub leaves : tells → LeavesFlushed S old new

-- the log was not recovered, or no links were served over it
abbrev pub LeavesLog : Geometry → Type 0 → Status → DiskState → DiskState → Type 0
LeavesLog S tells status old new = IsUnrecovered S tells status old new ⊎ IsUnused S tells status old new

-- ---- how far the run came

-- No device was asked: the arguments don't fit, or no threads can be started.
pub record Unasked (status : Status) (store : StoreOver) : Type 0 where
  pub why : (status.code ≡ 1) ⊎ (status.code ≡ 9)
  pub disk_still : store.disk_tells → Rests store.disk store.disk_then
  pub keep_still : store.keep_tells → Rests store.keep store.keep_then

-- The store, its config files and its log were opened, and no links were served.
pub record Unused (asked : AskedSizes) (status : Status) (store : StoreOver) : Type 0 where
  pub sizes : Sizes
  pub opened_as : IsOpened asked sizes (told_before store) store.keep_then
  pub log : IsUnused (whole sizes.segment) store.disk_tells status store.disk store.disk_then

-- A command that asks for these sizes served no links. Of the keep nothing changes but the format of a new store.
pub record EndsUnserved (asked : AskedSizes) (status : Status) (store : StoreOver) : Type 0 where
  pub why : Refused status store ⊎ (Misread status store ⊎ (Unrecovered asked status store ⊎ Unused asked status store))
  pub puts : PutsFormat asked store

-- no links were served
abbrev pub ServesNobody : List (List ℕ) → Status → StoreOver → Type 0
ServesNobody words status store = Unasked status store
    ⊎ ((command : ServeCommand) × IsServeCommand words command × EndsUnserved command.sizes status store)
