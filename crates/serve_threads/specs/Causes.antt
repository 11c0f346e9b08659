-- How often what is around the loops has failed, why there are no loops, and why a run of the threads ends as it does: by the counts of
-- failures of what they ask.
use Rattle.std.specs.Prelude.{◌≡◌, ◌⊎◌, ℕ, Option, Some, None, Result, Ok, Err}
use Rattle.mq_outside.specs.Counts.{Rises}
use Rattle.mq_outside.specs.declared.faults.DiskFault.{DiskFault}
use Rattle.mq_outside.specs.declared.faults.DiskFault.TheVariants as device
use Rattle.event_loops.specs.Causes.{LoopFaults}
use Rattle.event_loops.specs.declared.event_loop.LoopEnd.{LoopEnd}
use Rattle.event_loops.specs.declared.event_loop.LoopEnd.TheVariants.{Done, Stopped, Clock, Door, Poll, Memory}
use Rattle.worker_turns.specs.declared.flush.FlushEnd.{FlushEnd}
use Rattle.flush_rounds.specs.Causes.{BlamesDisk}
use Rattle.serve_threads.specs.declared.world.World.{World}

-- how often what is around both loops has failed: the readiness of each, the clock of each, and the door
pub record WorldFaults : Type 0 where
  pub ready : ℕ × ℕ
  pub clocks : ℕ × ℕ
  pub door : ℕ

abbrev pub world_faults : {Ready Link Door Ends Waker Clocks : Type 0} → (Ready → ℕ) → (Door → ℕ) → (Clocks → ℕ)
    → World Ready Clocks Link Door Ends Waker → WorldFaults
world_faults ready door clock world = record {
  ready = (ready world.ready.0, ready world.ready.1);
  clocks = (clock world.clocks.0, clock world.clocks.1);
  door = door world.door;
}

-- Loops that couldn't be made for this end: what tells the first one which of its links are ready failed, or there was no memory.
abbrev pub BlamesMaking : LoopEnd → WorldFaults → WorldFaults → Type 0
BlamesMaking Done old new = ⊥
BlamesMaking Stopped old new = ⊥
BlamesMaking Clock old new = ⊥
BlamesMaking Door old new = ⊥
BlamesMaking Poll old new = Rises old.ready.0 new.ready.0
BlamesMaking Memory old new = Unit {0}

-- the count of a door, or 0 where there is none
abbrev pub count_in : Option ℕ → ℕ
count_in None = 0
count_in (Some count) = count

-- the counts of what is around two loops, the first of which has the door
abbrev pub both_faults : LoopFaults → LoopFaults → WorldFaults
both_faults first second = record {
  ready = (first.ready, second.ready);
  clocks = (first.clock, second.clock);
  door = count_in first.door;
}

-- one of two counts rose
abbrev pub OneRises : ℕ × ℕ → ℕ × ℕ → Type 0
OneRises old new = Rises old.0 new.0 ⊎ Rises old.1 new.1

-- loops that end so blame nothing, or what they blame failed
abbrev pub BlamesWorld : LoopEnd → WorldFaults → WorldFaults → Type 0
BlamesWorld Done old new = Unit {0}
BlamesWorld Stopped old new = Unit {0}
BlamesWorld Clock old new = OneRises old.clocks new.clocks
BlamesWorld Door old new = Rises old.door new.door
BlamesWorld Poll old new = OneRises old.ready new.ready
BlamesWorld Memory old new = Unit {0}

-- a replacement of the kept files that ends so didn't fail, or the keep did
abbrev pub BlamesKeep : {A : Type 0} → Result A DiskFault → ℕ → ℕ → Type 0
BlamesKeep (Ok done) old new = Unit {0}
BlamesKeep (Err device.Failed) old new = Rises old new
BlamesKeep (Err device.Memory) old new = Unit {0}

-- how often the disk and the keep have failed, and what is around the loops
pub record ServeFaults : Type 0 where
  pub disk : ℕ
  pub keep : ℕ
  pub world : WorldFaults

abbrev pub counts_of : ℕ → ℕ → WorldFaults → ServeFaults
counts_of disk keep world = record { disk = disk; keep = keep; world = world }

-- The loops ended so, the last flush turn and the last replacement of the kept files did so, and each of them blames nothing, or what
-- it blames failed.
pub record HasCauses (end : LoopEnd) (last : FlushEnd) (kept : Result (Unit {0}) DiskFault) (old new : ServeFaults) : Type 0 where
  pub loops : BlamesWorld end old.world new.world
  pub flush : BlamesDisk last old.disk new.disk
  pub keep : BlamesKeep kept old.keep new.keep

-- ---- the loops

-- The end of both loops is that of one of them, or there was no memory. Where they ended of themselves both did.
pub record IsFirstFault (first second end : LoopEnd) : Type 0 where
  pub one : (end ≡ Memory) ⊎ ((end ≡ second) ⊎ (end ≡ first))
  pub done : end ≡ Done → (first ≡ Done) × (second ≡ Done)

-- there is a door
abbrev pub HasDoor : Option ℕ → Type 0
HasDoor None = ⊥
HasDoor (Some count) = Unit {0}
