-- What a tool does, by the status with which it ends.
use Rattle.std.specs.Prelude.{◌≡◌, ◌≢◌, ◌⊎◌, ℕ, List, ◌++◌, codes}
use Rattle.mq_outside.specs.Counts.{Rises}
use Rattle.mq_outside.specs.Disk.{DiskState}
use Rattle.mq_outside.specs.Files.{Files}
use Rattle.mq_outside.specs.declared.stream.Sink.{Ghosts}
use Rattle.record_codec.specs.Entry.{Entry}
use Rattle.log_model.specs.Bases.{Geometry, whole}
use Rattle.log_model.specs.Log.{IsWellFormed}
use Rattle.log_model.specs.Store.{Keeps, IsDamagedAt}
use Rattle.store_open.specs.declared.format.Sizes.{Sizes}
use Rattle.store_open.specs.declared.status.Status.{Status}
use Rattle.store_open.specs.declared.tool_words.Tool.{Tool}
use Rattle.store_open.specs.declared.tool_words.ToolCommand.{ToolCommand}
use Rattle.store_open.specs.Formats.{no_sizes}
use Rattle.store_open.specs.Openings.{FORMAT, AreSizesOf, IsForeign, IsOpened, StoreTold}
use Rattle.store_open.specs.ToolWords.{IsToolCommand}
use Rattle.tool_run.specs.Texts.{text_of, text_before, foreign_line, damaged_line}

-- ---- the sink

-- the sink took first bytes of the piece
pub record TookFront (old new piece : List ℕ) : Type 0 where
  pub front : List ℕ
  pub unwritten : List ℕ
  pub parts : front ++ unwritten ≡ piece
  pub taken_is : new ≡ old ++ front

-- what a sink took before a call and after it, how often it had failed, and whether it tells what it took
pub record SinkSeen : Type 1 where
  pub tells : Type 0
  pub taken : List ℕ
  pub taken_then : List ℕ
  pub faults : ℕ
  pub faults_then : ℕ

-- of this sink, before and after
abbrev pub seen_of : {K : Type 0} → Ghosts K → K → K → SinkSeen
seen_of it old new = record {
  tells = it.tells;
  taken = it.taken old;
  taken_then = it.taken new;
  faults = it.faults old;
  faults_then = it.faults new;
}

-- the sink took first bytes of this text
abbrev pub TookPart : SinkSeen → List ℕ → Type 0
TookPart sink text = sink.tells → TookFront sink.taken sink.taken_then text

-- the sink took this text, and didn't fail
pub record TookAll (sink : SinkSeen) (text : List ℕ) : Type 0 where
  pub all : sink.tells → sink.taken_then ≡ sink.taken ++ text
  pub still : sink.faults_then ≡ sink.faults

-- the sink failed and took first bytes of this text
pub record Failed (sink : SinkSeen) (text : List ℕ) : Type 0 where
  pub part : TookPart sink text
  pub rose : Rises sink.faults sink.faults_then

-- the sink took this text, or failed
abbrev pub TookOrFailed : SinkSeen → List ℕ → Type 0
TookOrFailed sink text = TookAll sink text ⊎ Failed sink text

-- ---- the reading of a log

-- The text of a log was written.
pub record Wrote (tool : Tool) (S : Geometry) (sink : SinkSeen) : Type 0 where
  pub records : List Entry
  pub lawful : IsWellFormed S records
  pub took : TookAll sink (text_of tool S records)

-- The log has the records that recovery keeps of the files.
pub record WroteKept (tool : Tool) (S : Geometry) (files : Files) (sink : SinkSeen) : Type 0 where
  pub records : List Entry
  pub keeps : Keeps S records files
  pub took : TookAll sink (text_of tool S records)

-- What had been written of a log was written, and then the line of the damage.
pub record WroteDamaged (tool : Tool) (S : Geometry) (place : ℕ) (name : List ℕ) (sink : SinkSeen) : Type 0 where
  pub records : List Entry
  pub lawful : IsWellFormed S records
  pub took : TookOrFailed sink (text_before tool records ++ damaged_line name place)

-- First bytes of the text of a log were written.
pub record WrotePart (tool : Tool) (S : Geometry) (sink : SinkSeen) : Type 0 where
  pub records : List Entry
  pub took : TookPart sink (text_of tool S records)

-- What a tool does with a log in segments of this size, whatever the disk tells.
pub record Reports (tool : Tool) (S : Geometry) (status : Status) (sink : SinkSeen) : Type 0 where
  pub done : status.code ≡ 0 → Wrote tool S sink
  pub damaged : status.code ≡ 8 → WroteDamaged tool S status.place status.name sink
  pub part : status.code ≢ 0 → status.code ≢ 8 → WrotePart tool S sink

-- the counts of the sink and of the disk, by the status
pub record CountsReport (status : Status) (sink sink_then disk disk_then : ℕ) : Type 0 where
  pub write : status.code ≡ 4 → Rises sink sink_then
  pub disk_failed : status.code ≡ 5 → Rises disk disk_then
  pub known : (status.code ≡ 0) ⊎ ((status.code ≡ 4) ⊎ ((status.code ≡ 5) ⊎ ((status.code ≡ 7) ⊎ (status.code ≡ 8))))

-- ---- a run

-- The store was not opened: the line says which text shows that it is foreign, and nothing else is written.
pub record IsUnopened (status : Status) (sink : SinkSeen) : Type 0 where
  pub line : status.code ≡ 6 → TookOrFailed sink (foreign_line status.name)
  pub nothing : status.code ≢ 6 → sink.taken_then ≡ sink.taken
  pub refused : (status.code ≡ 5) ⊎ ((status.code ≡ 6) ⊎ ((status.code ≡ 7) ⊎ (status.code ≡ 10)))

-- The store was opened with these sizes, and its log was read.
pub record ReadsStore (tool : Tool) (status : Status) (sink : SinkSeen) (store : StoreTold) (keep : DiskState) : Type 0 where
  pub sizes : Sizes
  pub opened_as : IsOpened no_sizes sizes store keep
  pub reports : Reports tool (whole sizes.segment) status sink
  pub kept : store.disk → status.code ≡ 0 → WroteKept tool (whole sizes.segment) store.files sink
  pub damaged : store.disk → status.code ≡ 8 → IsDamagedAt (whole sizes.segment) store.files status.place status.name

-- the counts of the sink, the disk and the keep
pub record Counts : Type 0 where
  pub sink : ℕ
  pub disk : ℕ
  pub keep : ℕ

-- each fault of a device is told only where the device's count rose
pub record Causes (status : Status) (old new : Counts) : Type 0 where
  pub write : status.code ≡ 4 → Rises old.sink new.sink
  pub disk_failed : status.code ≡ 5 → Rises old.disk new.disk
  pub keep_failed : status.code ≡ 10 → (status.name ≡ codes "keep") × Rises old.keep new.keep
  pub known : (status.code ≡ 0) ⊎ ((status.code ≡ 1) ⊎ ((status.code ≡ 4) ⊎ ((status.code ≡ 5) ⊎ ((status.code ≡ 6)
      ⊎ ((status.code ≡ 7) ⊎ ((status.code ≡ 8) ⊎ (status.code ≡ 10)))))))

-- The words are a command of this tool, the store is this program's and undamaged, and no device's count rises.
pub record IsSound (tool : Tool) (words : List (List ℕ)) (store : StoreTold) (old new : Counts) : Type 0 where
  pub asked : (command : ToolCommand) × IsToolCommand tool words command
  pub disk_tells : store.disk
  pub keep_tells : store.keep
  pub own : (name : List ℕ) → IsForeign store.files (store.texts FORMAT) no_sizes name → ⊥
  pub undamaged : (sizes : Sizes) (place : ℕ) (name : List ℕ) → AreSizesOf (store.texts FORMAT) no_sizes sizes
      → IsDamagedAt (whole sizes.segment) store.files place name → ⊥
  pub sink_still : Rises old.sink new.sink → ⊥
  pub disk_still : Rises old.disk new.disk → ⊥
  pub keep_still : Rises old.keep new.keep → ⊥
