-- What filling a store is: a run of the broker over the generator's requests, and what it leaves of the disk.
use Rattle.std.specs.Prelude.{◌≡◌, ◌⊎◌, ℕ, List, [], ◌∷◌, length, codes, false}
use Rattle.mq_outside.specs.Counts.{Rises}
use Rattle.mq_outside.specs.Disk.{DiskState, Rests}
use Rattle.mq_outside.specs.Files.{Files}
use Rattle.record_codec.specs.Entry.{Entry}
use Rattle.log_model.specs.Bases.{whole}
use Rattle.log_model.specs.Numbered.{count_of}
use Rattle.log_model.specs.Store.{IsDamagedAt, IsHonest, Keeps, StoresLog}
use Rattle.store_open.specs.declared.status.Status.{Status}
use Rattle.broker_model.specs.State.{State}
use Rattle.broker_model.specs.Run.{opened}
use Rattle.broker_events.specs.declared.event.Setup.{Setup}
use Rattle.core_log.specs.Loads.{whole_log}
use Rattle.core_log.specs.Represents.{setup_of}
use Rattle.log_opening.specs.Opens.{OpensWith, no_saved}
use Rattle.log_opening.specs.declared.opening.Opened.{Opened}
use Rattle.log_model.specs.Stored.{stored}
use Rattle.segment_files.specs.Turn.{IsReady, growing}
use Rattle.gen_run.specs.declared.stop.Stop.{Stop}
use Rattle.gen_run.specs.declared.stop.Stop.TheVariants as stop
use Rattle.worker_turns.specs.Acts.{Act, steps_of}
use Rattle.flush_story.specs.Story.{Reaches}
use Rattle.gen_run.specs.Rounds.{AreAll}
use Rattle.gen_run.specs.Sums.{IsSummaryOf}
use Rattle.gen_run.specs.declared.summary.Summary.{Summary}

-- the broker's setup, in segments of this size: it is reached at 127.0.0.1:10911, and answers without waiting for the disk
abbrev pub gen_setup : ℕ → Setup
gen_setup segment = record { segment = segment; host = 127 ∷ 0 ∷ 0 ∷ 1 ∷ 0 ∷ 0 ∷ 42 ∷ 159 ∷ []; sync = false }

-- the broker over a log without records
abbrev pub empty_state : ℕ → State
empty_state segment = opened (setup_of (gen_setup segment)) (whole_log []) no_saved

-- what such a run leaves of a disk that told what it holds, stored a log with so many records flushed, and was read honestly: it
-- stores the run's log, all of it flushed
abbrev pub LeavesStored : Type 0 → ℕ → State → DiskState → DiskState → Type 0
LeavesStored tells segment reached old new =
    tells → (log : List Entry) (flushed : ℕ) → StoresLog (whole segment) log flushed old → IsHonest (whole segment) log flushed old.reads
    → StoresLog (whole segment) reached.log.records (length reached.log.records) new

-- A log without records was opened: where the disk told what it holds, recovery keeps none of its files. Where it stored a log, too,
-- with so many records flushed, and was read honestly, it stores the log without records, and is ready for flush turns.
pub record OpensEmpty (tells : Type 0) (segment : ℕ) (old new : DiskState) (it : Opened) : Type 0 where
  pub none : tells → Keeps (whole segment) [] old.reads
  pub opens : OpensWith (gen_setup segment) no_saved [] it
  pub ready : tells → (log : List Entry) (flushed : ℕ) → StoresLog (whole segment) log flushed old
      → IsHonest (whole segment) log flushed old.reads → IsReady (stored (whole segment) [] 0) 0 (growing it.flusher.file new)

-- Recovery kept no record of the log's files, and all acts of the generator were made from a broker over that log: they are a run of
-- the model.
pub record HasGiven (segment items start : ℕ) (old : DiskState) : Type 0 where
  pub none : Keeps (whole segment) [] old.reads
  pub found : ℕ
  pub acts : List Act
  pub reached : State
  pub given : AreAll start items found acts
  pub runs : Reaches (empty_state segment) (steps_of acts) reached

-- The same, whether the disk told what it holds or not. All of the run's log is flushed, consumers see it, and the summary is that of
-- this log.
pub record HasFilled (tells : Type 0) (segment items start : ℕ) (it : Summary) (old new : DiskState) : Type 0 where
  pub none : tells → Keeps (whole segment) [] old.reads
  pub found : ℕ
  pub acts : List Act
  pub reached : State
  pub given : AreAll start items found acts
  pub runs : Reaches (empty_state segment) (steps_of acts) reached
  pub flushed : reached.flushed ≡ count_of reached.log
  pub seen : reached.dispatched ≡ count_of reached.log
  pub leaves : LeavesStored tells segment reached old new
  pub sums : IsSummaryOf items start found reached.log it

-- the generator stopped: the status says why
pub record CountsFill (status : Status) (old new : ℕ) : Type 0 where
  pub disk_failed : status.code ≡ 5 → Rises old new
  pub foreign : status.code ≡ 6 → status.name ≡ codes "records"
  pub known : (status.code ≡ 5) ⊎ ((status.code ≡ 6) ⊎ ((status.code ≡ 7) ⊎ (status.code ≡ 8)))

-- a store that has records stays as it is
abbrev pub LeavesRecords : Type 0 → Status → DiskState → DiskState → Type 0
LeavesRecords tells status old new = tells → status.code ≡ 6 → Rests old new

-- ---- damage

-- these files are damaged at the status's place, in the file of its name
abbrev pub AreDamaged : ℕ → Status → Files → Type 0
AreDamaged segment status files = IsDamagedAt (whole segment) files status.place status.name

-- they were when the generator came to them, and it changed nothing
pub record WereDamaged (segment : ℕ) (status : Status) (old new : DiskState) : Type 0 where
  pub damaged : AreDamaged segment status old.reads
  pub rests : Rests old new

-- a log that was read back is damaged, or it says something else than the core's tables have, which is told as the start of the folder
abbrev pub SaysOther : ℕ → Status → Files → Type 0
SaysOther segment status files = AreDamaged segment status files ⊎ ((status.place ≡ 0) × (status.name ≡ codes "commitlog"))

-- all items were given, and so is the log that was read back then
pub record GivesOther (segment items start : ℕ) (status : Status) (old new : DiskState) : Type 0 where
  pub given : HasGiven segment items start old
  pub other : SaysOther segment status new.reads

-- status 8 comes of one or the other
abbrev pub FindsDamage : ℕ → ℕ → ℕ → Status → DiskState → DiskState → Type 0
FindsDamage segment items start status old new = WereDamaged segment status old new ⊎ GivesOther segment items start status old new

-- what holds at status 8, where the disk tells what it holds
abbrev pub AtDamage : Type 0 → Status → Type 0 → Type 0
AtDamage tells status P = tells → status.code ≡ 8 → P

-- ---- why it stopped

-- the status says why the generator stopped
abbrev pub StatusTellsStop : Status → Stop → Type 0
StatusTellsStop status stop.Disk = status.code ≡ 5
StatusTellsStop status stop.Memory = status.code ≡ 7
