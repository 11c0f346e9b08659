-- What a run of `serve` leaves.
use Rattle.std.specs.Prelude.{◌≡◌, ◌≢◌, ◌⊎◌, ℕ, ◌+◌, ◌≤◌, ◌++◌, List, length, take}
use Rattle.std.specs.Prelude.{Option, Some, None, IfSome, IfNone, OnOk, Result}
use Rattle.mq_outside.specs.Counts.{Counted}
use Rattle.mq_outside.specs.Files.{Files, OldOrNew}
use Rattle.mq_outside.specs.Disk.{DiskState, IsCrashImage, Rests, Throughout}
use Rattle.mq_outside.specs.declared.faults.DiskFault.{DiskFault}
use Rattle.record_codec.specs.Entry.{Entry}
use Rattle.log_model.specs.Bases.{whole}
use Rattle.log_model.specs.Store.{IsHonest, StoresLog}
use Rattle.log_model.specs.Stored.{StaysOutside, stored}
use Rattle.segment_files.specs.Turn.{IsReady, growing}
use Rattle.segment_files.specs.declared.last_file.LastFile.{LastFile}
use Rattle.broker_model.specs.Run.{opened}
use Rattle.broker_model.specs.State.{State, Saved}
use Rattle.broker_model.specs.Tables.{OffsetRow, TopicRow}
use Rattle.broker_events.specs.declared.event.Event.{Event}
use Rattle.broker_events.specs.declared.event.Setup.{Setup}
use Rattle.broker_events.specs.declared.said.Said.{Said}
use Rattle.core_log.specs.Loads.{whole_log}
use Rattle.core_log.specs.Represents.{Represents, setup_of}
use Rattle.core_log.specs.declared.parts.Parts.{Parts}
use Rattle.flush_story.specs.Keeping.{flushed_in}
use Rattle.config_store.specs.Configs.{OFFSETS, TOPICS, HasConfig}
use Rattle.config_store.specs.Texts.{offsets_text_of, topics_text_of}
use Rattle.keeper_turns.specs.Puts.{HasSuch, KeepsBy}
use Rattle.keeper_turns.specs.Turns.{IsOffsetsOf, IsTopicsOf}
use Rattle.log_opening.specs.Opens.{OpensLogWith, OpensKeptWith, OpensOursWith, saved_as}
use Rattle.log_opening.specs.declared.opening.Opened.{Opened}
use Rattle.worker_turns.specs.Acts.{DiskView, Place, change_of, place_of}
use Rattle.spine.specs.Stands.{Stands}
use Rattle.loop_threads.specs.Kept.{KeepOver}
use Rattle.serve_threads.specs.Kept.{IsTextAlong, PutsAlong}
use Rattle.serve_threads.specs.Links.{LinksOver, AreAllThatCame}
use Rattle.serve_threads.specs.Served.{IsLeft, IsMadeBy, Views}
use Rattle.store_open.specs.Openings.{FORMAT}
use Rattle.store_open.specs.declared.serve_words.ServeCommand.{ServeCommand}
use Rattle.store_open.specs.declared.status.Status.{Status}
use Rattle.worker_turns.specs.declared.flush.FlushEnd.{FlushEnd}
use Rattle.event_loops.specs.declared.event_loop.LoopEnd.{LoopEnd}
use Rattle.exit_status.specs.Stores.{LeavesFlushed, Misread, StoreOver, store_over}
use Rattle.broker_serve.specs.Statuses.{StatusLeft}
use Rattle.broker_serve.specs.Unserved.{LeavesLog}

-- what the words set up, in segments of this size
abbrev pub setup_by : ServeCommand → ℕ → Setup
setup_by command segment = record { segment = segment; host = command.host; sync = command.sync }

-- ---- the kept files from before the opening on

-- the format is as it was or this text, each of the two files is as it was or has such a text, and each other one is as it was
pub record ReplacesAllBy (format : List ℕ) (IsOffsets IsTopics : List ℕ → Type 0) (old new : Files) : Type 0 where
  pub format_is : OldOrNew format (old FORMAT) (new FORMAT)
  pub offsets_are : (new OFFSETS ≡ old OFFSETS) ⊎ HasSuch IsOffsets (new OFFSETS)
  pub topics_are : (new TOPICS ≡ old TOPICS) ⊎ HasSuch IsTopics (new TOPICS)
  pub others : (name : List ℕ) → name ≢ FORMAT → name ≢ OFFSETS → name ≢ TOPICS → new name ≡ old name

-- the same from old to new, as it is read, and in each crash image of each moment
pub record PutsAllBy (format : List ℕ) (IsOffsets IsTopics : List ℕ → Type 0) (old new : DiskState) : Type 0 where
  pub reads : ReplacesAllBy format IsOffsets IsTopics old.reads new.reads
  pub at_each : Throughout old new (λ files.
      (before : Files) × IsCrashImage old before × ReplacesAllBy format IsOffsets IsTopics before files)

-- The format is as it was or this text. Each of the two files is as it was or has the text of a state to which a beginning of the
-- history leads, from each state that the first core represented.
abbrev pub PutsAllAlong : List ℕ → Parts → List (Event × Option Said) → DiskState → DiskState → Type 0
PutsAllAlong format start history old new =
    PutsAllBy format (IsTextAlong (λ s. offsets_text_of s.offsets) start history)
    (IsTextAlong (λ s. topics_text_of s.topics) start history) old new

-- ---- the disk

-- The core represents a state whose log begins with these records, all of them flushed, and the disk stores that log, with its flushed
-- number.
pub record StoresAfter (segment : ℕ) (records : List Entry) (core : Parts) (disk : DiskState) : Type 0 where
  pub reached : State
  pub represents : Represents core reached
  pub more : List Entry
  pub begins : reached.log.records ≡ records ++ more
  pub flushed : length records ≤ flushed_in reached
  pub stores : StoresLog (whole segment) reached.log.records (flushed_in reached) disk

-- The same of first records of this log, at least so many.
pub record StoresOn (segment : ℕ) (log : List Entry) (flushed : ℕ) (core : Parts) (disk : DiskState) : Type 0 where
  pub number : ℕ
  pub low : flushed ≤ number
  pub high : number ≤ length log
  pub after : StoresAfter segment (take number log) core disk

-- of each log that the old disk stored and was read of honestly, once it was opened and served up to this core
abbrev pub StoresOurs : ℕ → DiskState → Parts → DiskState → Type 0
StoresOurs segment old core new = (log : List Entry) (flushed : ℕ) → StoresLog (whole segment) log flushed old
    → IsHonest (whole segment) log flushed old.reads → StoresOn segment log flushed core new

-- Where the first core represents the opening of a log, all of which is flushed and stored on the old disk, the new disk stores what
-- came of it.
abbrev pub StoresOpened : Parts → LastFile → DiskState → Parts → DiskState → Type 0
StoresOpened start file old core new = (setup : Setup) (saved : Saved) (records : List Entry)
    → Represents start (opened (setup_of setup) (whole_log records) saved)
    → IsReady (stored (whole setup.segment) records (length records)) 0 (growing file old) → StoresAfter setup.segment records core new

-- ---- the links

-- Unless the status says that there was no memory, the links that have ended are told, where the ledgers tell. They are all that the door
-- gave between these two counts of it.
pub record AllLinks (tells : Type 0) (status : Status) (gave : ℕ × ℕ) (links : LinksOver) : Type 0 where
  pub told : status.code ≢ 7 → tells → links.told
  pub all : AreAllThatCame gave.0 gave.1 links

-- ---- a run

-- a run over a store: its status, the disk before the run and behind it, how often readers of such a disk failed, and the keep
pub record RunOver (D : Type 0) : Type 1 where
  pub status : Status
  pub disk : D
  pub disk_then : D
  pub read_faults : D → ℕ
  pub keep : KeepOver

abbrev pub run_over : {D : Type 0} → Status → D → D → (D → ℕ) → KeepOver → RunOver D
run_over status disk disk_then read_faults keep =
    record { status = status; disk = disk; disk_then = disk_then; read_faults = read_faults; keep = keep }

-- what the disk holds before the run, and behind it
abbrev pub before : {D : Type 0} → Views D → RunOver D → DiskState
before views run = views.disk.state run.disk

abbrev pub behind : {D : Type 0} → Views D → RunOver D → DiskState
behind views run = views.disk.state run.disk_then

-- the store over it
abbrev pub store_of : {D : Type 0} → Views D → RunOver D → StoreOver
store_of views run = store_over views.disk.tells (before views run) (behind views run) run.keep.tells run.keep.old run.keep.new

-- The disk was lent and given back, and is as it was: what is read of it, what a crash leaves of it, and its counts of failures and
-- of syncs.
pub record IsAlike {D : Type 0} (view : DiskView D) (old new : D) : Type 0 where
  pub rests : view.tells → Rests (view.state old) (view.state new)
  pub faults : view.faults new ≡ view.faults old
  pub syncs : view.syncs new ≡ view.syncs old

-- The readers of the two loops, which failed so often, were given back to this disk, and the one behind the run has counted that.
abbrev pub CountsReads : {D : Type 0} → RunOver D → ℕ × ℕ → D → Type 0
CountsReads run failures ended = Counted (failures.0 + failures.1) (run.read_faults ended) (run.read_faults run.disk_then)

-- Links were served over this open log, and this core is left. The disk that they ended with is the one behind the run, which has
-- counted the failures of the loops' readers. Why the loops ended, how the last flush turn did and the last replacement of the kept
-- files tell the status.
pub record LeavesCore {D : Type 0} (views : Views D) (opened : Opened) (core : Parts) (run : RunOver D) : Type 0 where
  pub stopped : LoopEnd
  pub last : FlushEnd
  pub kept : Result (Unit {0}) DiskFault
  pub tells : StatusLeft run.status stopped last kept
  pub began : D
  pub ended : Place D
  pub back : IsAlike views.disk ended.disk run.disk_then
  pub failures : ℕ × ℕ
  pub counted : CountsReads run failures ended.disk
  pub left : IsLeft views failures (change_of opened.core (place_of opened.flusher.file began) core ended) run.keep kept

-- the same where links were served, from the disk before the run on; else the disk and the keep stay
abbrev pub EndsOver : {D : Type 0} → Views D → Opened → Option Parts → RunOver D → Type 0
EndsOver views opened None run = (views.disk.tells → Rests (before views run) (behind views run))
    × (run.keep.tells → Rests run.keep.old run.keep.new)
EndsOver views opened (Some core) run = (ends : LeavesCore views opened core run) × IsAlike views.disk run.disk ends.began

-- The opening of a log, from the disk before it to the one that links were served over. A log that the first one stored, and was read
-- of honestly, opened as a prefix with all that was flushed, for which the second is ready; at each moment a crash leaves what was
-- flushed. Files outside the log's folder stay, and no failure was counted.
pub record BeginsOn {D : Type 0} (setup : Setup) (saved : Saved) (opened : Opened) (view : DiskView D) (old began : D) : Type 0 where
  pub ours : view.tells → (log : List Entry) (flushed : ℕ) → StoresLog (whole setup.segment) log flushed (view.state old)
      → IsHonest (whole setup.segment) log flushed (view.state old).reads
      → OpensOursWith setup saved log flushed (view.state began) opened
  pub leaves : view.tells → LeavesFlushed (whole setup.segment) (view.state old) (view.state began)
  pub outside : view.tells → StaysOutside (view.state old) (view.state began)
  pub faults : view.faults began ≡ view.faults old

-- A log was opened by this setup with what the kept files had, and the core stands for one history since, of which each entry is the
-- flusher's, one of the loops' or the keeper's. Where the disk tells its files, it is the log that recovery keeps of them; and a log
-- that it stored and was read of honestly it stores still, with what was flushed since. The history begins on the disk that the opening
-- left, and ends on the one behind the run. All replies `read N` of a loop are at most as many as the failures of its reader, each has a
-- count of them, and that disk has counted them. What was put into the kept files is told along this history. Why the loops ended, how
-- the last flush turn did and the last replacement of the kept files tell the status. Where that replacement ended Ok, as it did with
-- status 0, both have the texts of the core, and keep them through a crash.
pub record HasServed {D : Type 0} (views : Views D) (setup : Setup) (run : RunOver D)
    (puts : Parts → List (Event × Option Said) → Type 0) (core : Parts) : Type 0 where
  pub offsets : List OffsetRow
  pub topics : List TopicRow
  pub config : run.keep.tells → HasConfig run.keep.old.reads offsets topics
  pub opened : Opened
  pub over : OpensLogWith setup (saved_as offsets topics) opened
  pub kept : views.disk.tells → OpensKeptWith setup (saved_as offsets topics) (before views run).reads opened
  pub history : List (Event × Option Said)
  pub stands : Stands opened.core history core
  pub began : D
  pub begins : BeginsOn setup (saved_as offsets topics) opened views.disk run.disk began
  pub ended : Place D
  pub back : IsAlike views.disk ended.disk run.disk_then
  pub failures : ℕ × ℕ
  pub counted : CountsReads run failures ended.disk
  pub made : IsMadeBy views failures history (change_of opened.core (place_of opened.flusher.file began) core ended)
  pub stores : views.disk.tells → StoresOurs setup.segment (before views run) core (behind views run)
  pub put : run.keep.tells → puts opened.core history
  pub stopped : LoopEnd
  pub last : FlushEnd
  pub replaced : Result (Unit {0}) DiskFault
  pub tells : StatusLeft run.status stopped last replaced
  pub done : run.keep.tells → OnOk replaced (KeepsBy (IsOffsetsOf core) (IsTopicsOf core) run.keep.new)
  pub ends : run.keep.tells → run.status.code ≡ 0 → KeepsBy (IsOffsetsOf core) (IsTopicsOf core) run.keep.new

-- The same with what was kept, once that was loaded. Where no links were served, why, and what is left of the log.
pub record ServesLog {D : Type 0} (views : Views D) (setup : Setup) (saved : Saved) (core : Option Parts) (run : RunOver D) : Type 0 where
  pub still : core ≡ None → run.keep.tells → Rests run.keep.old run.keep.new
  pub unserved : IfNone core (LeavesLog (whole setup.segment) views.disk.tells run.status (before views run) (behind views run))
  pub served : IfSome core (λ left. (opened : Opened) × OpensLogWith setup saved opened
      × (views.disk.tells → OpensKeptWith setup saved (before views run).reads opened)
      × (views.disk.tells → StoresOurs setup.segment (before views run) left (behind views run))
      × (ends : LeavesCore views opened left run) × BeginsOn setup saved opened views.disk run.disk ends.began)

-- the same from a keep whose format stands
pub record ServesStore {D : Type 0} (views : Views D) (setup : Setup) (core : Option Parts) (run : RunOver D) : Type 0 where
  pub still : core ≡ None → run.keep.tells → Rests run.keep.old run.keep.new
  pub unserved : IfNone core (Misread run.status (store_of views run)
      ⊎ LeavesLog (whole setup.segment) views.disk.tells run.status (before views run) (behind views run))
  pub served : IfSome core (HasServed views setup run (λ start history. PutsAlong start history run.keep.old run.keep.new))
