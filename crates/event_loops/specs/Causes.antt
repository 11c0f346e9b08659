-- Why a loop ends: by the counts of failures of what it asks.
use Rattle.std.specs.Prelude.{◌≡◌, ◌≤◌, ℕ, Option, Some, None, Result, Ok, Err}
use Rattle.mq_outside.specs.Counts.{Rises}
use Rattle.mq_outside.specs.declared.faults.DiskFault.{DiskFault}
use Rattle.mq_outside.specs.declared.faults.DiskFault.TheVariants as device
use Rattle.event_loops.specs.declared.entrance.Entrance.{Entrance}
use Rattle.event_loops.specs.declared.event_loop.LoopEnd.{LoopEnd}
use Rattle.event_loops.specs.declared.event_loop.LoopEnd.TheVariants.{Done, Stopped, Clock, Door, Poll, Memory}
use Rattle.event_loops.specs.declared.outside.Outside.{Outside}

-- how often what a loop asks has failed: its readiness, its clock, and the door, if it has it
pub record LoopFaults : Type 0 where
  pub ready : ℕ
  pub clock : ℕ
  pub door : Option ℕ

-- the count of the door that stands in an entrance, if there is one
abbrev pub door_faults : {Ready Link Door Ends Waker : Type 0} → (Door → ℕ) → Option (Entrance Ready Link Door Ends Waker) → Option ℕ
door_faults faults None = None
door_faults faults (Some entrance) = Some (faults entrance.door)

-- the counts of what is outside a loop
abbrev pub loop_faults : {Ready Link Door Ends Waker Clocks : Type 0} → (Ready → ℕ) → (Door → ℕ) → (Clocks → ℕ)
    → Outside Ready Clocks Link Door Ends Waker → LoopFaults
loop_faults ready door clock outside = record {
  ready = ready outside.ready;
  clock = clock outside.clock;
  door = door_faults door outside.entrance;
}

-- a door that was there is there still, and its count doesn't fall
abbrev pub GrowsAt : Option ℕ → Option ℕ → Type 0
GrowsAt None new = new ≡ None
GrowsAt (Some old) None = ⊥
GrowsAt (Some old) (Some new) = old ≤ new

-- there is a door, and it failed
abbrev pub RisesAt : Option ℕ → Option ℕ → Type 0
RisesAt None new = ⊥
RisesAt (Some old) None = ⊥
RisesAt (Some old) (Some new) = Rises old new

-- no count falls
pub record Grow (old new : LoopFaults) : Type 0 where
  pub ready : old.ready ≤ new.ready
  pub clock : old.clock ≤ new.clock
  pub door : GrowsAt old.door new.door

-- a loop that ends so blames nothing, or what it blames failed
abbrev pub Blames : LoopEnd → LoopFaults → LoopFaults → Type 0
Blames Done old new = Unit {0}
Blames Stopped old new = Unit {0}
Blames Clock old new = Rises old.clock new.clock
Blames Door old new = RisesAt old.door new.door
Blames Poll old new = Rises old.ready new.ready
Blames Memory old new = Unit {0}

-- no count falls, and what is blamed for the end failed
pub record CountsEnd (end : LoopEnd) (old new : LoopFaults) : Type 0 where
  pub grow : Grow old new
  pub blames : Blames end old new

-- the loop ended by a fault
abbrev pub IsFault : LoopEnd → Type 0
IsFault Done = ⊥
IsFault Stopped = ⊥
IsFault Clock = Unit {0}
IsFault Door = Unit {0}
IsFault Poll = Unit {0}
IsFault Memory = Unit {0}

-- no count falls, and where this ends the loop, it is a fault, and what is blamed failed
abbrev pub CountsLoop : {A : Type 0} → Result A LoopEnd → LoopFaults → LoopFaults → Type 0
CountsLoop (Ok done) old new = Grow old new
CountsLoop (Err end) old new = CountsEnd end old new × IsFault end

-- ---- one device

-- how a loop ends where its readiness fails
abbrev pub end_of_poll : DiskFault → LoopEnd
end_of_poll device.Failed = Poll
end_of_poll device.Memory = Memory

-- readiness failed, by its count, or there is no memory
abbrev pub CountsPoll : {A : Type 0} → Result A LoopEnd → ℕ → ℕ → Type 0
CountsPoll (Ok done) old new = new ≡ old
CountsPoll (Err Poll) old new = Rises old new
CountsPoll (Err Memory) old new = new ≡ old
CountsPoll (Err Done) old new = ⊥
CountsPoll (Err Stopped) old new = ⊥
CountsPoll (Err Clock) old new = ⊥
CountsPoll (Err Door) old new = ⊥

-- the door failed, by its count
abbrev pub CountsDoor : {A : Type 0} → Result A LoopEnd → ℕ → ℕ → Type 0
CountsDoor (Ok done) old new = new ≡ old
CountsDoor (Err end) old new = (end ≡ Door) × Rises old new
