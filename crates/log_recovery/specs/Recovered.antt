-- What recovery hands out, what it makes of the files, and what it answers.
use Rattle.std.specs.Prelude.{◌≡◌, ◌≢◌, ◌⊎◌, ◌↔◌, ℕ, ◌<◌, ◌≤◌, List, [], length, take, IsSome, IsTrue, Result, Ok, Err}
use Rattle.std.specs.Ordering.{nat_cmp, is_lt}
use Rattle.std.specs.Cmp.Lexicographic.{slice_cmp}
use Rattle.mq_outside.specs.Counts.{Rises}
use Rattle.mq_outside.specs.Files.{Files}
use Rattle.mq_outside.specs.Disk.{DiskState, EachImage, Throughout}
use Rattle.record_codec.specs.Entry.{Entry}
use Rattle.log_model.specs.Bases.{Geometry, first_segment}
use Rattle.log_model.specs.Log.{IsWellFormed, end_of}
use Rattle.log_model.specs.Segments.{used, shape_of, segment_file, last_name, last_bytes, layouts, IsLogFile, NoOther, next_segment}
use Rattle.log_model.specs.Store.{AreEnded, Keeps, StoresAt, StoresLog, IsHonest, KeepsIfHonest}
use Rattle.log_model.specs.Stored.{Stored, HasRecords}
use Rattle.log_recovery.specs.declared.fault.RecoverFault.{RecoverFault}
use Rattle.log_recovery.specs.declared.fault.RecoverFault.TheVariants.{Damaged, Failed, Memory}

-- Recovery keeps records of these files. It handed them, in order, to the visitor that is this before and that after, and
-- they end here.
pub record Kept (S : Geometry) (files : Files) (before after : List Entry → Type 0) (end : ℕ) : Type 0 where
  pub records : List Entry
  pub keeps : Keeps S records files
  pub handed : before [] → after records
  pub ends : end ≡ end_of S.base records

-- The records that the visitor was handed are a log, and they end here.
pub record Handed (S : Geometry) (stands : List Entry → Type 0) (end : ℕ) : Type 0 where
  pub records : List Entry
  pub lawful : IsWellFormed S records
  pub handed : stands records
  pub ends : end ≡ end_of S.base records

-- the files have these records: each file before the last ends in a blank, and the last has nothing behind its records
pub record HasKept (S : Geometry) (records : List Entry) (files : Files) : Type 0 where
  pub older : AreEnded S (shape_of S records).older files
  pub last : last_bytes S (shape_of S records) files ≡ layouts (shape_of S records).last

-- a place and a file that are told as damaged
abbrev pub OnDamage : {A : Type 0} → Result A RecoverFault → (ℕ → List ℕ → Type 0) → Type 0
OnDamage (Ok _) P = Unit {0}
OnDamage (Err (Damaged place name)) P = P place name
OnDamage (Err Failed) P = Unit {0}
OnDamage (Err Memory) P = Unit {0}

-- what holds at want of memory
abbrev pub OnMemory : {A : Type 0} → Result A RecoverFault → Type 0 → Type 0
OnMemory (Ok _) P = Unit {0}
OnMemory (Err (Damaged place name)) P = Unit {0}
OnMemory (Err Failed) P = Unit {0}
OnMemory (Err Memory) P = P

-- the count of the disk's faults rises exactly at Failed: damage and want of memory leave it
abbrev pub CountsRecoverFault : {A : Type 0} → Result A RecoverFault → ℕ → ℕ → Type 0
CountsRecoverFault (Ok _) old new = new ≡ old
CountsRecoverFault (Err (Damaged place name)) old new = new ≡ old
CountsRecoverFault (Err Failed) old new = Rises old new
CountsRecoverFault (Err Memory) old new = new ≡ old

-- the last file of the log's folder, in byte order
pub record IsLastFile (files : Files) (name : List ℕ) : Type 0 where
  pub there : IsSome (files name)
  pub behind : (other : List ℕ) → IsLogFile other → IsSome (files other) → other ≢ name → IsTrue (is_lt (slice_cmp nat_cmp other name))

-- a crash leaves each file of the log's folder as it is read, but for the last one
abbrev pub IsSettled : DiskState → Type 0
IsSettled disk = EachImage (λ files. (name : List ℕ) → IsLogFile name → (files name ≡ disk.reads name) ⊎ IsLastFile disk.reads name) disk

-- The files are those of these records alone: as they were read before the last, and in the last, which is there where it was
-- read, nothing behind its records.
pub record IsCutTo (S : Geometry) (records : List Entry) (read files : Files) : Type 0 where
  pub older : (k : ℕ) → first_segment S ≤ k → k < next_segment S (shape_of S records).older
      → files (segment_file S k) ≡ read (segment_file S k)
  pub last : last_bytes S (shape_of S records) files ≡ layouts (shape_of S records).last
  pub there : IsSome (files (last_name S (shape_of S records))) ↔ IsSome (read (last_name S (shape_of S records)))
  pub others : NoOther S (next_segment S (shape_of S records).older) files

-- Recovery of a disk that stores a log: a prefix of it with all that was flushed was handed to the visitor, and is now the
-- log that the disk stores, all of it flushed and nothing behind it.
pub record Recovered (it : Stored) (before after : List Entry → Type 0) (disk : DiskState) (end : ℕ) : Type 0 where
  pub number : ℕ
  pub low : it.flushed ≤ number
  pub high : number ≤ length it.log
  pub handed : before [] → after (take number it.log)
  pub ends : end ≡ end_of it.geometry.base (take number it.log)
  pub stores : StoresAt it.geometry (take number it.log) number (shape_of it.geometry (take number it.log))
      (used (shape_of it.geometry (take number it.log))) disk

-- From old to new what was flushed of this log stays: the disk still stores it, and at each moment each crash image has the
-- flushed records at their places, and keeps them where it is honest.
pub record Stays (S : Geometry) (log : List Entry) (flushed : ℕ) (old new : DiskState) : Type 0 where
  pub still : StoresLog S log flushed new
  pub any_moment : Throughout old new (HasRecords S (take flushed log))
  pub honest : Throughout old new (KeepsIfHonest S log flushed)

-- and so it is for each log and each flushed number that the disk stored, and was read honestly for
abbrev pub StaysFlushed : Geometry → DiskState → DiskState → Type 0
StaysFlushed S old new = (log : List Entry) (flushed : ℕ) → StoresLog S log flushed old → IsHonest S log flushed old.reads
    → Stays S log flushed old new
