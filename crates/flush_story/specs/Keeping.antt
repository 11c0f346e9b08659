-- What every crash leaves of a broker's log, at each moment of a story.
use Rattle.std.specs.Prelude.{◌≡◌, ℕ, ◌+◌, ◌-◌, ◌≤◌, List, [], ◌∷◌, length, take}
use Rattle.mq_outside.specs.Files.{Files}
use Rattle.mq_outside.specs.Disk.{DiskState}
use Rattle.record_codec.specs.Entry.{Entry}
use Rattle.log_model.specs.Bases.{Geometry, geometry}
use Rattle.log_model.specs.Numbered.{with_appended}
use Rattle.log_model.specs.Segments.{AreSegmentFiles, layouts}
use Rattle.log_model.specs.Stored.{Stored, FlushTurn, KeepsAtLeast, stored, turned_by, turned_in}
use Rattle.segment_files.specs.Turn.{IsReady, IsPlaced, Growing}
use Rattle.segment_files.specs.declared.last_file.LastFile.{LastFile}
use Rattle.broker_model.specs.State.{State, next_batch}

-- ---- a broker's log

-- how many of the records that stand are flushed
abbrev pub flushed_in : State → ℕ
flushed_in s = s.flushed - s.log.base.records

-- in which segments, and from which base on
abbrev pub geometry_of : State → Geometry
geometry_of s = geometry s.setup.segment s.log.base

-- the state's log, with its flushed number
abbrev pub log_in : State → Stored
log_in s = stored (geometry_of s) s.log.records (flushed_in s)

-- The disk stores the state's log, with its flushed number, and is open for the next batch. Where no zeros are written ahead, no more
-- bytes stand behind the flushed records than the next batch has.
pub record IsOpenFor (s : State) (at : Growing) : Type 0 where
  pub behind : ℕ
  pub few : at.file.ahead ≡ 0 → behind ≤ length (layouts (next_batch s))
  pub ready : IsReady (log_in s) behind at

-- The next bytes go where the state's next batch is written, whatever the disk tells: to the end of the flushed records, or to the
-- start of the next segment, which the next record opens.
pub record IsPlacedFor (s : State) (file : LastFile) : Type 0 where
  pub within : flushed_in s ≤ length s.log.records
  pub placed : IsPlaced (log_in s) file

-- the second state has the log of the first with more records, and its setup
pub record Grows (s t : State) : Type 0 where
  pub more : List Entry
  pub log : t.log ≡ with_appended s.log more
  pub setup : t.setup ≡ s.setup

-- ---- what is kept

-- the turns' moments come one behind another, between these two
abbrev pub AreInOrder : ℕ → List FlushTurn → ℕ → Type 0
AreInOrder low [] high = low ≤ high
AreInOrder low (turn ∷ turns) high = (low ≤ turn.moment) × AreInOrder turn.moment turns high

-- A crash at the moment of each turn leaves the files of the first records of the log, so many as are flushed by then, and nothing
-- behind them.
abbrev pub AreExact : Geometry → List Entry → ℕ → List FlushTurn → DiskState → Type 0
AreExact S log before [] disk = Unit {0}
AreExact S log before (turn ∷ turns) disk =
    ((files : Files) → disk.image_at turn.moment files → AreSegmentFiles S (take (before + turn.count) log) files)
    × AreExact S log (before + turn.count) turns disk

-- From old to new the broker went from the first state to the second, and these turns ended Ok. The log grew; the turns flushed what
-- is flushed now; at each moment a crash leaves the log's first records, at least those that were flushed by then, and where no zeros
-- are written ahead, at the moment of a turn's end exactly these. The disk stores the second state's log as it did the first one's.
pub record Keeps (s t : State) (turns : List FlushTurn) (old new : Growing) : Type 0 where
  pub grows : Grows s t
  pub flushed : flushed_in t ≡ flushed_in s + turned_in turns
  pub kept : KeepsAtLeast (geometry_of t) t.log.records (λ m. flushed_in s + turned_by turns m) old.disk new.disk
  pub order : AreInOrder old.disk.moment turns new.disk.moment
  pub exact : old.file.ahead ≡ 0 → AreExact (geometry_of t) t.log.records (flushed_in s) turns new.disk
  pub ahead : new.file.ahead ≡ old.file.ahead
  pub still_open : IsOpenFor t new
