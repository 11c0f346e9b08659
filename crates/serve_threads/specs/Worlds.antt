-- What is around the threads, whole and in parts.
use Rattle.std.specs.Prelude.{◌≡◌, ℕ, List, IfSome}
use Rattle.event_loops.specs.declared.outside.Outside.{Outside}
use Rattle.serve_threads.specs.declared.world.World.{World}

-- what each of the threads has of it: this is outside the first loop, which has the door, this outside the second, and this one is the
-- flusher's clock
pub record IsParted {Ready Clocks Link Door Ends Waker : Type 0} (world : World Ready Clocks Link Door Ends Waker)
    (first second : Outside Ready Clocks Link Door Ends Waker) (timer : Clocks) : Type 0 where
  pub ready : (world.ready.0 ≡ first.ready) × (world.ready.1 ≡ second.ready)
  pub clocks : (world.clocks.0 ≡ first.clock) × (world.clocks.1 ≡ second.clock)
  pub timer_is : world.timer ≡ timer
  pub door : IfSome first.entrance (λ e. world.door ≡ e.door)

-- what the clocks of the loops and the flusher's gave so far
pub record Readings : Type 0 where
  pub first : List ℕ
  pub second : List ℕ
  pub timer : List ℕ

abbrev pub readings_of : {Ready Clocks Link Door Ends Waker : Type 0} → (Clocks → List ℕ)
    → World Ready Clocks Link Door Ends Waker → Readings
readings_of readings world =
    record { first = readings world.clocks.0; second = readings world.clocks.1; timer = readings world.timer }
