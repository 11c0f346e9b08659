-- What ended a run of `serve`, by its status.
use Rattle.std.specs.Prelude.{◌≡◌, ◌≢◌, ◌⊎◌, ℕ, List, codes, Result, Ok, Err}
use Rattle.mq_outside.specs.Counts.{Rises}
use Rattle.mq_outside.specs.Files.{Files}
use Rattle.mq_outside.specs.declared.faults.DiskFault.{DiskFault}
use Rattle.mq_outside.specs.declared.faults.DiskFault.TheVariants as device
use Rattle.log_model.specs.Bases.{whole}
use Rattle.log_model.specs.Store.{IsDamagedAt}
use Rattle.config_store.specs.Faults.{IsBadText}
use Rattle.worker_turns.specs.declared.flush.FlushEnd.{FlushEnd}
use Rattle.worker_turns.specs.declared.flush.FlushEnd.TheVariants as flush
use Rattle.event_loops.specs.declared.event_loop.LoopEnd.{LoopEnd}
use Rattle.event_loops.specs.declared.event_loop.LoopEnd.TheVariants as loops
use Rattle.store_open.specs.Openings.{FORMAT, StoreTold, AreSizesOf}
use Rattle.store_open.specs.ServeWords.{IsServeCommand}
use Rattle.store_open.specs.declared.format.Sizes.{Sizes}
use Rattle.store_open.specs.declared.serve_words.ServeCommand.{ServeCommand}
use Rattle.store_open.specs.declared.status.Status.{Status}
use Rattle.serve_threads.specs.Causes.{ServeFaults}
use Rattle.exit_status.specs.Statuses.{TellsDevice}

-- ---- links were served

-- the status tells why the loops ended, and this is its code where they ended of themselves
abbrev pub StatusTellsLoops : ℕ → Status → LoopEnd → Type 0
StatusTellsLoops code status loops.Done = status.code ≡ code
StatusTellsLoops code status loops.Stopped = status.code ≡ 7
StatusTellsLoops code status loops.Clock = TellsDevice status (codes "clock")
StatusTellsLoops code status loops.Door = TellsDevice status (codes "door")
StatusTellsLoops code status loops.Poll = TellsDevice status (codes "door")
StatusTellsLoops code status loops.Memory = status.code ≡ 7

-- Why the loops ended and how the last flush turn did tell the status: want of memory in that turn, or a batch that begins elsewhere
-- than where the flusher writes, comes before all else, and that the disk failed is told where nothing else is.
abbrev pub StatusTellsEnd : Status → LoopEnd → FlushEnd → Type 0
StatusTellsEnd status end flush.Idle = StatusTellsLoops 0 status end
StatusTellsEnd status end flush.Done = StatusTellsLoops 0 status end
StatusTellsEnd status end (flush.Failed count) = StatusTellsLoops 5 status end
StatusTellsEnd status end flush.Misplaced = status.code ≡ 7
StatusTellsEnd status end flush.Memory = status.code ≡ 7

-- the last flush turn didn't fail
abbrev pub IsFlushed : FlushEnd → Type 0
IsFlushed flush.Idle = Unit {0}
IsFlushed flush.Done = Unit {0}
IsFlushed (flush.Failed count) = ⊥
IsFlushed flush.Misplaced = ⊥
IsFlushed flush.Memory = ⊥

-- the loops ended of themselves, and the last flush turn didn't fail
abbrev pub AllWell : LoopEnd → FlushEnd → Type 0
AllWell end last = (end ≡ loops.Done) × IsFlushed last

-- why the loops ended, how the last flush turn did and the replacement of the kept files tell the status
abbrev pub StatusLeft : {A : Type 0} → Status → LoopEnd → FlushEnd → Result A DiskFault → Type 0
StatusLeft status end last (Ok done) = StatusTellsEnd status end last
StatusLeft status end last (Err device.Memory) = status.code ≡ 7
StatusLeft status end last (Err device.Failed) =
    (AllWell end last × TellsDevice status (codes "keep")) ⊎ (StatusTellsEnd status end last × (status.code ≢ 0))

-- ---- no links were served

-- the status tells why there is no reader
abbrev pub StatusTellsReader : Status → DiskFault → Type 0
StatusTellsReader status device.Failed = status.code ≡ 5
StatusTellsReader status device.Memory = status.code ≡ 7

-- The log was open: the disk failed, by its count, or the door or the poll did, or there was no memory.
abbrev pub ShutOut : Status → ℕ → ℕ → Type 0
ShutOut status disk disk_then = ((status.code ≡ 5) × Rises disk disk_then) ⊎ TellsDevice status (codes "door")

-- The kept files were loaded: the same, or it is damage, of which this holds.
abbrev pub Unopened : (ℕ → List ℕ → Type 0) → Status → ℕ → ℕ → Type 0
Unopened damaged status disk disk_then = ((status.code ≡ 8) × damaged status.place status.name) ⊎ ShutOut status disk disk_then

-- The same, or the keep failed, by its count.
abbrev pub Unserved : (ℕ → List ℕ → Type 0) → Status → ℕ → ℕ → ℕ → ℕ → Type 0
Unserved damaged status disk disk_then keep keep_then =
    ((status.code ≡ 10) × (status.name ≡ codes "keep") × Rises keep keep_then) ⊎ Unopened damaged status disk disk_then

-- where the disk tells them, these files are damaged at this place, in this one of them
abbrev pub IsDamagedLog : Type 0 → ℕ → Files → ℕ → List ℕ → Type 0
IsDamagedLog disk segment files place name = disk → IsDamagedAt (whole segment) files place name

-- the log of this store is so damaged, or, where the keep tells its texts, the kept file of this name isn't of its form
abbrev pub IsDamagedIn : ℕ → StoreTold → ℕ → List ℕ → Type 0
IsDamagedIn segment store place name =
    IsDamagedLog store.disk segment store.files place name ⊎ ((place ≡ 0) × (store.keep → IsBadText store.texts name))

-- the same of a store of the sizes that these words ask for, or that its format says
abbrev pub IsDamagedFor : ServeCommand → StoreTold → ℕ → List ℕ → Type 0
IsDamagedFor command store place name =
    (sizes : Sizes) × (store.keep → AreSizesOf (store.texts FORMAT) command.sizes sizes) × IsDamagedIn sizes.segment store place name

-- No links were served: the arguments don't fit, or threads can't be started, or the store is another's, or it is damaged, or a device
-- failed, by its count, or there was no memory.
abbrev pub TellsWhy : List (List ℕ) → StoreTold → Status → ServeFaults → ServeFaults → Type 0
TellsWhy words store status old new =
    (status.code ≡ 1) ⊎ ((command : ServeCommand) × IsServeCommand words command
    × ((status.code ≡ 9) ⊎ ((status.code ≡ 6) ⊎ Unserved (IsDamagedFor command store) status old.disk new.disk old.keep new.keep)))
