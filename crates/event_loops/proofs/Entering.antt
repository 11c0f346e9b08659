-- The count of a door, over several calls.
use Rattle.std.proofs.Common.{◌≡◌, ◌∙◌, ℕ, Option, Some, None, refl, sym, subst, arith}
use Rattle.event_loops.specs.declared.entrance.Entrance.{Entrance}
use Rattle.event_loops.specs.Doors.{KeepsEntrance, KeepsDoor}

module _ {Ready Link Door Ends Waker : Type 0} (gave : Door → ℕ) where
  pub entrance_still : (entrance : Entrance Ready Link Door Ends Waker) → KeepsEntrance gave entrance entrance
  entrance_still entrance = record { bounds = refl; counted = omega arith }

  pub door_still : (door : Option (Entrance Ready Link Door Ends Waker)) → KeepsDoor gave door door
  door_still None = refl
  door_still (Some entrance) = entrance_still entrance

  -- nothing was asked of it
  pub door_same : (old new : Option (Entrance Ready Link Door Ends Waker)) → new ≡ old → KeepsDoor gave old new
  door_same old new same = subst (λ (door : Option (Entrance Ready Link Door Ends Waker)). KeepsDoor gave old door) (sym same) (door_still old)

  entrance_then : (old mid new : Entrance Ready Link Door Ends Waker) → KeepsEntrance gave old mid → KeepsEntrance gave mid new → KeepsEntrance gave old new
  entrance_then old mid new h k = record { bounds = k.bounds ∙ h.bounds; counted = omega (arith, h.counted, k.counted) }

  pub door_then : (old mid new : Option (Entrance Ready Link Door Ends Waker)) → KeepsDoor gave old mid → KeepsDoor gave mid new → KeepsDoor gave old new
  door_then None None new h k = k
  door_then None (Some mid) new h k = absurd (cc h)
  door_then (Some old) None new h k = absurd h
  door_then (Some old) (Some mid) None h k = absurd k
  door_then (Some old) (Some mid) (Some new) h k = entrance_then old mid new h k
