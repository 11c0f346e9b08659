-- What is known of a log's files in the course of reading them.
use Rattle.std.specs.Prelude.{◌≡◌, ◌⊎◌, ℕ, suc, ◌+◌, ◌-◌, ◌^◌, ◌<◌, ◌≤◌, List, [], ◌∷◌, ◌++◌, length, take, drop}
use Rattle.mq_outside.specs.Files.{Files}
use Rattle.record_codec.specs.Entry.{Entry}
use Rattle.record_codec.specs.Layout.{layout, size, IsRecord}
use Rattle.log_model.specs.Bases.{Geometry, first_segment}
use Rattle.log_model.specs.Log.{IsWellFormed, end_of}
use Rattle.log_model.specs.Segments.{Shape, used, segment_start, next_segment}
use Rattle.log_model.specs.Store.{IsNext, ReadsTo, Keeps}
use Rattle.log_recovery.specs.declared.tail.LogTail.{LogTail}
use Rattle.log_recovery.specs.Tails.{StandsFor}
use Rattle.log_recovery.specs.declared.window.Window.{Window}
use Rattle.log_recovery.specs.Names.{AreNamed, NoFurther}

-- ---- a window

-- the window holds these bytes of a file from its place on
pub record Shows (window : Window) (bytes : List ℕ) : Type 0 where
  pub same : take window.held window.buffer.items ≡ take window.held (drop window.from bytes)
  pub within : window.held ≤ length bytes - window.from

-- each record of at most so many bytes that stands at this place of the file ends before this place
abbrev pub EndsBefore : List ℕ → ℕ → ℕ → ℕ → Type 0
EndsBefore bytes at room end = (r : Entry) (rest : List ℕ) → IsRecord r → drop at bytes ≡ layout r ++ rest → size r ≤ room
    → at + size r ≤ end

-- ---- records

-- the tail stands for these records, and for a log that goes on in segments of so many bytes
pub record StandsIn (S : Geometry) (tail : LogTail) (records : List Entry) : Type 0 where
  pub size : tail.segment ≡ S.size
  pub stands : StandsFor S.base tail records

-- what was read: the records, and in which segments they stand
pub record Reading : Type 0 where
  pub records : List Entry
  pub shape : Shape

-- the visitor that is this before and that after was handed the rest of these records, where it had been handed those
abbrev pub Onward : (List Entry → Type 0) → (List Entry → Type 0) → List Entry → List Entry → Type 0
Onward before after done records = before done → after records

-- so much is read, up to this offset of the file that begins at this base
pub record Stood (S : Geometry) (files : Files) (read : Reading) (tail : LogTail) (file_base at : ℕ) : Type 0 where
  pub reads : ReadsTo S read.records read.shape files
  pub left : StandsIn S tail read.records
  pub begins : file_base ≡ segment_start S read.shape
  pub here : at ≡ used read.shape
  pub low : file_base < 2 ^ 63

-- no record comes next
abbrev pub NoNext : Geometry → Files → Reading → Type 0
NoNext S files read = (r : Entry) → IsNext S read.records files read.shape r → ⊥

-- a step read a record of n bytes, which was handed on
pub record StepsTo (S : Geometry) (files : Files) (read : Reading) (tail : LogTail)
    (handed_on : List Entry → Type 0) (n : ℕ) : Type 0 where
  pub r : Entry
  pub next : IsNext S read.records files read.shape r
  pub long : n ≡ size r
  pub left : StandsIn S tail (read.records ++ r ∷ [])
  pub handed : handed_on (read.records ++ r ∷ [])

-- a step found no next record
pub record Stops (S : Geometry) (files : Files) (read : Reading) (tail : LogTail)
    (handed_on : List Entry → Type 0) (n : ℕ) : Type 0 where
  pub none : n ≡ 0
  pub ends : NoNext S files read
  pub left : StandsIn S tail read.records
  pub handed : handed_on read.records

-- records were read up to here and handed on
pub record Scanned (S : Geometry) (files : Files) (tail : LogTail) (file_base : ℕ)
    (handed_on : List Entry → Type 0) (at : ℕ) : Type 0 where
  pub read : Reading
  pub stood : Stood S files read tail file_base at
  pub handed : handed_on read.records

-- and none comes next
pub record ScansTo (S : Geometry) (files : Files) (tail : LogTail) (file_base : ℕ)
    (handed_on : List Entry → Type 0) (at : ℕ) : Type 0 where
  pub scanned : Scanned S files tail file_base handed_on at
  pub ends : NoNext S files scanned.read

-- records were read and handed on up to the end of a file, whose blank ends it, and so many files are read
pub record Opened (S : Geometry) (files : Files) (number : ℕ) (tail : LogTail) (handed_on : List Entry → Type 0) : Type 0 where
  pub read : Reading
  pub reads : ReadsTo S read.records read.shape files
  pub left : StandsIn S tail read.records
  pub so_many : next_segment S read.shape.older ≡ number
  pub starts : used read.shape ≡ 0
  pub handed : handed_on read.records

-- the log was read: so many files, and the records that recovery keeps of them
pub record ReadLog (S : Geometry) (files : Files) (before after : List Entry → Type 0) (count end : ℕ) : Type 0 where
  pub records : List Entry
  pub keeps : Keeps S records files
  pub handed : before [] → after records
  pub ends : end ≡ end_of S.base records
  pub named : AreNamed S count files
  pub all : NoFurther S count files
  pub last : ((count ≡ first_segment S) × (records ≡ [])) ⊎ (count ≡ suc (next_segment S keeps.shape.older))

-- ---- whatever the disk tells

-- the records that were handed on are a log, and the tail stands for it
pub record HandsOn (S : Geometry) (tail : LogTail) (stands : List Entry → Type 0) : Type 0 where
  pub records : List Entry
  pub lawful : IsWellFormed S records
  pub left : StandsIn S tail records
  pub handed : stands records
