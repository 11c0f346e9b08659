-- The world is known from its parts.
use Rattle.std.proofs.Common.{◌≡◌, ◌∙◌, sym, ℕ, Option, Some, None}
use Rattle.std.specs.Prelude.{IfSome}
use Rattle.event_loops.specs.Causes.{door_faults}
use Rattle.event_loops.specs.declared.entrance.Entrance.{Entrance}
use Rattle.event_loops.specs.declared.outside.Outside.{Outside}
use Rattle.serve_threads.specs.Causes.{HasDoor}
use Rattle.serve_threads.specs.Worlds.{IsParted}
use Rattle.serve_threads.specs.declared.world.World.{World}

same_door : {Ready Link Door Ends Waker : Type 0} (faults : Door → ℕ) (entrance : Option (Entrance Ready Link Door Ends Waker)) (one other : Door) → HasDoor (door_faults faults entrance)
    → IfSome entrance (λ e. one ≡ e.door) → IfSome entrance (λ e. other ≡ e.door) → other ≡ one
same_door faults None one other has is also = absurd has
same_door faults (Some e) one other has is also = also ∙ sym is

-- two worlds with the same parts are one
pub parted_once : {Ready Clocks Link Door Ends Waker : Type 0} (faults : Door → ℕ) (one other : World Ready Clocks Link Door Ends Waker) (first second : Outside Ready Clocks Link Door Ends Waker)
    (timer : Clocks) → HasDoor (door_faults faults first.entrance) → IsParted one first second timer → IsParted other first second timer → other ≡ one
parted_once faults one other first second timer has h k =
    let door = same_door faults first.entrance one.door other.door has h.door k.door in
    λ i. record {
      ready = ((k.ready.0 ∙ sym h.ready.0) i, (k.ready.1 ∙ sym h.ready.1) i);
      clocks = ((k.clocks.0 ∙ sym h.clocks.0) i, (k.clocks.1 ∙ sym h.clocks.1) i);
      timer = (k.timer_is ∙ sym h.timer_is) i;
      door = door i;
    }
