-- What a log opens as.
use Rattle.std.specs.Prelude.{◌≡◌, ℕ, ◌≤◌, List, [], length, take, None}
use Rattle.mq_outside.specs.Disk.{DiskState}
use Rattle.mq_outside.specs.Files.{Files}
use Rattle.mq_outside.specs.declared.frozen_ranges.FrozenRanges.{FrozenRanges}
use Rattle.record_codec.specs.Entry.{Entry}
use Rattle.log_model.specs.Bases.{Geometry, whole, no_base}
use Rattle.log_model.specs.Log.{end_of}
use Rattle.log_model.specs.Numbered.{IsLawful, count_of, place_end}
use Rattle.log_model.specs.Segments.{used, shape_of}
use Rattle.log_model.specs.Store.{Keeps, StoresAt}
use Rattle.log_model.specs.Stored.{stored}
use Rattle.log_recovery.specs.Recovered.{HasKept}
use Rattle.segment_files.specs.Turn.{GoesToEnd, IsReady, growing}
use Rattle.broker_model.specs.State.{Saved}
use Rattle.broker_model.specs.Tables.{OffsetRow, TopicRow}
use Rattle.broker_model.specs.Run.{opened}
use Rattle.broker_events.specs.declared.event.Setup.{Setup}
use Rattle.core_log.specs.Loads.{IsLoadedFrom, IsLoadedWith, whole_log}
use Rattle.core_log.specs.Shows.{shown_of}
use Rattle.core_log.specs.Represents.{Represents, AreCovered, setup_of}
use Rattle.log_opening.specs.declared.loading.LoadedLog.{LoadedLog}
use Rattle.log_opening.specs.declared.opening.Opened.{Opened}

-- these offsets and topics are kept beside the log, and nothing was removed
abbrev pub saved_as : List OffsetRow → List TopicRow → Saved
saved_as offsets topics = record { offsets = offsets; topics = topics; base = no_base }

-- nothing is kept beside the log
abbrev pub no_saved : Saved
no_saved = saved_as [] []

-- ---- a log that was loaded

-- the records that recovery keeps of these files were loaded behind these topics, and they are read at the end
pub record IsKeptLog (S : Geometry) (topics : List TopicRow) (old new : Files) (log : LoadedLog) : Type 0 where
  pub records : List Entry
  pub keeps : Keeps S records old
  pub loaded : IsLoadedFrom topics records log.loaded
  pub ends : log.end ≡ end_of S.base records
  pub has : HasKept S records new

-- a prefix of the log with all that was flushed was loaded behind these topics, and the disk stores it, all of it flushed
pub record IsOurLog (S : Geometry) (topics : List TopicRow) (log : List Entry) (flushed : ℕ) (disk : DiskState) (it : LoadedLog)
    : Type 0 where
  pub number : ℕ
  pub low : flushed ≤ number
  pub high : number ≤ length log
  pub loaded : IsLoadedFrom topics (take number log) it.loaded
  pub ends : it.end ≡ end_of S.base (take number log)
  pub has : HasKept S (take number log) disk.reads
  pub stores : StoresAt S (take number log) number (shape_of S (take number log)) (used (shape_of S (take number log))) disk

-- the broker can open over these records: they are a log, which was loaded with these offsets and topics, and the pieces cover it
pub record CanOpen (setup : Setup) (offsets : List OffsetRow) (topics : List TopicRow) (records : List Entry) (log : LoadedLog)
    (pieces : FrozenRanges) : Type 0 where
  pub lawful : IsLawful setup.segment (whole_log records)
  pub loaded : IsLoadedWith topics records offsets log.loaded
  pub ends : log.end ≡ end_of no_base records
  pub covered : AreCovered pieces (whole_log records) (count_of (whole_log records))

-- ---- a log that is open

-- The core represents the opening of this log with what is kept beside it, and shows that all of it is flushed. The next flush turn
-- writes where it ends.
pub record OpensWith (setup : Setup) (saved : Saved) (records : List Entry) (it : Opened) : Type 0 where
  pub lawful : IsLawful setup.segment (whole_log records)
  pub represents : Represents it.core (opened (setup_of setup) (whole_log records) saved)
  pub shown : shown_of it.core ≡ record { flushed = count_of (whole_log records); end = place_end (whole_log records); out = None }
  pub placed : GoesToEnd (stored (whole setup.segment) records (length records)) it.flusher.file

-- it opens over a log
pub record OpensLogWith (setup : Setup) (saved : Saved) (it : Opened) : Type 0 where
  pub records : List Entry
  pub opens : OpensWith setup saved records it

-- over the records that recovery keeps of these files
pub record OpensKeptWith (setup : Setup) (saved : Saved) (files : Files) (it : Opened) : Type 0 where
  pub records : List Entry
  pub keeps : Keeps (whole setup.segment) records files
  pub opens : OpensWith setup saved records it

-- Over a prefix of this log with all that was flushed. The disk stores it, all of it flushed, and is ready for flush turns.
pub record OpensOursWith (setup : Setup) (saved : Saved) (log : List Entry) (flushed : ℕ) (disk : DiskState) (it : Opened) : Type 0 where
  pub number : ℕ
  pub low : flushed ≤ number
  pub high : number ≤ length log
  pub opens : OpensWith setup saved (take number log) it
  pub ready : IsReady (stored (whole setup.segment) (take number log) number) 0 (growing it.flusher.file disk)

-- ---- the same with nothing beside it

abbrev pub OpensOver : Setup → List Entry → Opened → Type 0
OpensOver setup records it = OpensWith setup no_saved records it

abbrev pub OpensLog : Setup → Opened → Type 0
OpensLog setup it = OpensLogWith setup no_saved it

abbrev pub OpensKept : Setup → Files → Opened → Type 0
OpensKept setup files it = OpensKeptWith setup no_saved files it

abbrev pub OpensOurs : Setup → List Entry → ℕ → DiskState → Opened → Type 0
OpensOurs setup log flushed disk it = OpensOursWith setup no_saved log flushed disk it
