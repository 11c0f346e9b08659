-- Which device a status of `serve` blames.
use Rattle.std.specs.Prelude.{◌≡◌, ◌⊎◌, codes}
use Rattle.mq_outside.specs.Counts.{Rises}
use Rattle.event_loops.specs.declared.event_loop.LoopEnd.{LoopEnd}
use Rattle.event_loops.specs.declared.event_loop.LoopEnd.TheVariants as loops
use Rattle.store_open.specs.declared.status.Status.{Status}
use Rattle.serve_threads.specs.Causes.{OneRises, ServeFaults, WorldFaults}
use Rattle.exit_status.specs.Statuses.{TellsDevice}

-- the status tells of no device that failed
abbrev pub BlamesNone : Status → Type 0
BlamesNone status =
    (status.code ≡ 0) ⊎ ((status.code ≡ 1) ⊎ ((status.code ≡ 6)
    ⊎ ((status.code ≡ 7) ⊎ ((status.code ≡ 8) ⊎ (status.code ≡ 9)))))

-- what keeps the door shut: it failed, or what tells one of the loops which links are ready did, or there is no memory
abbrev pub BlamesDoor : Status → WorldFaults → WorldFaults → Type 0
BlamesDoor status old new = (status.code ≡ 7)
    ⊎ ((status.code ≡ 10) × (status.name ≡ codes "door") × (Rises old.door new.door ⊎ OneRises old.ready new.ready))

-- the device that the status names failed: the clock of one loop, the keep, the door, or what tells one loop which links are ready
abbrev pub BlamesNamed : Status → ServeFaults → ServeFaults → Type 0
BlamesNamed status old new =
    ((status.name ≡ codes "clock") × OneRises old.world.clocks new.world.clocks)
    ⊎ (((status.name ≡ codes "keep") × Rises old.keep new.keep)
    ⊎ ((status.name ≡ codes "door") × (Rises old.world.door new.world.door ⊎ OneRises old.world.ready new.world.ready)))

-- The status blames no device, or one whose count of failures rose: 5 the disk, and 10 the one that it names. No other code comes.
abbrev pub Causes : Status → ServeFaults → ServeFaults → Type 0
Causes status old new =
    BlamesNone status ⊎ (((status.code ≡ 5) × Rises old.disk new.disk) ⊎ ((status.code ≡ 10) × BlamesNamed status old new))

-- the status tells why there are no loops
abbrev pub StatusTellsMaking : Status → LoopEnd → Type 0
StatusTellsMaking status loops.Memory = status.code ≡ 7
StatusTellsMaking status loops.Done = TellsDevice status (codes "door")
StatusTellsMaking status loops.Stopped = TellsDevice status (codes "door")
StatusTellsMaking status loops.Clock = TellsDevice status (codes "door")
StatusTellsMaking status loops.Door = TellsDevice status (codes "door")
StatusTellsMaking status loops.Poll = TellsDevice status (codes "door")
