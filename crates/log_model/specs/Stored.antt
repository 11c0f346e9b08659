-- A log whose first records are flushed, and what each crash leaves of it while the disk is written.
use Rattle.std.specs.Prelude.{◌≡◌, ℕ, ◌+◌, ◌≤◌, nat_le, List, ◌++◌, length, take, if◌then◌else◌}
use Rattle.std.specs.List.{sum_by}
use Rattle.mq_outside.specs.Files.{Files}
use Rattle.mq_outside.specs.Disk.{DiskState, IsCrashImage, Throughout}
use Rattle.record_codec.specs.Entry.{Entry}
use Rattle.log_model.specs.Bases.{Geometry}
use Rattle.log_model.specs.Segments.{Shape, IsLogFile}
use Rattle.log_model.specs.Store.{Stands, IsLaid, StoresLog}

-- ---- which log

-- a log, its segments and base, and how many of its records are flushed
pub record Stored : Type 0 where
  pub geometry : Geometry
  pub log : List Entry
  pub flushed : ℕ

abbrev pub stored : Geometry → List Entry → ℕ → Stored
stored S log flushed = record { geometry = S; log = log; flushed = flushed }

-- its flushed records
abbrev pub flushed_of : Stored → List Entry
flushed_of it = take it.flushed it.log

-- with n more of its records flushed
abbrev pub with_flushed : ℕ → Stored → Stored
with_flushed n it = record { geometry = it.geometry; log = it.log; flushed = it.flushed + n }

-- with more records appended, none of them flushed
abbrev pub with_more : List Entry → Stored → Stored
with_more more it = record { geometry = it.geometry; log = it.log ++ more; flushed = it.flushed }

-- ---- what a crash leaves

-- the files have these records at their places with their blanks, and behind them arbitrary bytes
pub record HasRecords (S : Geometry) (records : List Entry) (files : Files) : Type 0 where
  pub shape : Shape
  pub reach : ℕ
  pub laid : IsLaid S records shape
  pub stands : Stands S shape reach files

-- the files have the first records of the log at their places, at least so many
pub record HasFirst (S : Geometry) (log : List Entry) (least : ℕ) (files : Files) : Type 0 where
  pub number : ℕ
  pub low : least ≤ number
  pub high : number ≤ length log
  pub has : HasRecords S (take number log) files

-- the disk stores the log with at least so many of its records flushed
pub record StoresFirst (S : Geometry) (log : List Entry) (least : ℕ) (disk : DiskState) : Type 0 where
  pub number : ℕ
  pub low : least ≤ number
  pub stores : StoresLog S log number disk

-- the disk went on from old to new: what was said of moments up to old stays
abbrev pub Continues : DiskState → DiskState → Type 0
Continues old new = Throughout old new (λ files. Unit {0})

-- From old to new a crash at moment m leaves the first records of the log at their places, at least `least m` of them.
pub record KeepsAtLeast (S : Geometry) (log : List Entry) (least : ℕ → ℕ) (old new : DiskState) : Type 0 where
  pub continues : Continues old new
  pub each : (m : ℕ) (files : Files) → old.moment ≤ m → m ≤ new.moment → new.image_at m files → HasFirst S log (least m) files

-- ---- flush turns

-- a flush turn that ended Ok: how many records it flushed, and the moment at which it ended
pub record FlushTurn : Type 0 where
  pub count : ℕ
  pub moment : ℕ

abbrev pub flush_turn : ℕ → ℕ → FlushTurn
flush_turn count moment = record { count = count; moment = moment }

-- how many records these turns flushed
abbrev pub turned_in : List FlushTurn → ℕ
turned_in turns = sum_by (λ turn. turn.count) turns

-- how many records these turns had flushed by moment m
abbrev pub turned_by : List FlushTurn → ℕ → ℕ
turned_by turns m = sum_by (λ turn. if nat_le turn.moment m then turn.count else 0) turns

-- ---- which files stay

-- of the files whose names have P, these are what a crash might have left before
pub record AreAsIn (P : List ℕ → Type 0) (old : DiskState) (files : Files) : Type 0 where
  pub before : Files
  pub image : IsCrashImage old before
  pub same : (name : List ℕ) → P name → files name ≡ before name

-- from old to new the files whose names have P stay, as they are read and in each crash image
pub record StaysWhere (P : List ℕ → Type 0) (old new : DiskState) : Type 0 where
  pub reads : (name : List ℕ) → P name → new.reads name ≡ old.reads name
  pub images : Throughout old new (AreAsIn P old)

-- the name of a file outside the log's folder
abbrev pub IsOutside : List ℕ → Type 0
IsOutside name = IsLogFile name → ⊥

-- from old to new the files outside the log's folder stay
abbrev pub StaysOutside : DiskState → DiskState → Type 0
StaysOutside = StaysWhere IsOutside

-- from old to new the log's files stay
abbrev pub LogStays : DiskState → DiskState → Type 0
LogStays = StaysWhere IsLogFile
