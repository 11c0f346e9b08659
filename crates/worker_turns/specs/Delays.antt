-- What a delay turn is: deliveries, one after another, until one finds nothing that it may deliver.
use Rattle.std.specs.Prelude.{◌≡◌, ◌⊎◌, ℕ, ◌^◌, ◌-◌, ◌++◌, List, [], ◌∷◌, length, map}
use Rattle.std.specs.Prelude.{Bool, true, false, Option, Some, None, Result, Ok, Err}
use Rattle.std.specs.declared.alloc.AllocError.{AllocError}
use Rattle.broker_events.specs.Makes.{Makes}
use Rattle.broker_events.specs.declared.event.Event.{Event}
use Rattle.broker_events.specs.declared.event.Event.TheVariants.{Deliver}
use Rattle.broker_events.specs.declared.said.Said.{Said}
use Rattle.broker_events.specs.declared.said.Said.TheVariants as said
use Rattle.worker_turns.specs.Turns.{Steps}

-- a delivery at this reading, of this level and with this number in it
abbrev pub delivery : ℕ → (ℕ × ℕ) → Event × Option Said
delivery now what = (Deliver now, Some (said.Delivered (Some what)))

-- it is said that nothing was delivered: nothing is due, the pending bytes are full, or the log is at its end
abbrev pub DeliversNone : Said → Type 0
DeliversNone (said.Reply reply) = ⊥
DeliversNone (said.After reply number turn) = ⊥
DeliversNone (said.Full pending) = Unit {0}
DeliversNone (said.Batch batch) = ⊥
DeliversNone said.Done = ⊥
DeliversNone (said.Awaited what) = ⊥
DeliversNone (said.Moved number) = ⊥
DeliversNone said.LogEnd = Unit {0}
DeliversNone (said.Delivered None) = Unit {0}
DeliversNone (said.Delivered (Some what)) = ⊥
DeliversNone (said.Checked what) = ⊥

-- one event was made, and by its answer a message was delivered, or none was; where memory ran out nothing was said
abbrev pub Delivers : {C : Type 0} → Steps C → ℕ → C → Result Bool AllocError → C → Type 0
Delivers makes now x (Ok true) y = (what : ℕ × ℕ) × makes x (Deliver now) (Some (said.Delivered (Some what))) y
Delivers makes now x (Ok false) y = (what : Said) × DeliversNone what × makes x (Deliver now) (Some what) y
Delivers makes now x (Err fault) y = makes x (Deliver now) None y

-- how many messages one turn delivers at most
abbrev pub most_delivered : ℕ
most_delivered = 2 ^ 32 - 1

-- behind these deliveries one more event delivered nothing; or they are as many as a turn makes
abbrev pub IsLastOf : ℕ → List (ℕ × ℕ) → List (Event × Option Said) → Type 0
IsLastOf now delivered last = ((what : Said) × DeliversNone what × (last ≡ (Deliver now, Some what) ∷ []))
    ⊎ ((length delivered ≡ most_delivered) × (last ≡ []))

-- so many messages were delivered, until none was; where memory ran out nothing was said to the last event
abbrev pub EndsDelivering : ℕ → List (ℕ × ℕ) → Result ℕ AllocError → List (Event × Option Said) → Type 0
EndsDelivering now delivered (Ok count) last = (length delivered ≡ count) × IsLastOf now delivered last
EndsDelivering now delivered (Err fault) last = last ≡ (Deliver now, None) ∷ []

-- the steps of a delay turn at this reading
pub record AreDeliveries (now : ℕ) (result : Result ℕ AllocError) (steps : List (Event × Option Said)) : Type 0 where
  pub delivered : List (ℕ × ℕ)
  pub last : List (Event × Option Said)
  pub ends : EndsDelivering now delivered result last
  pub are : steps ≡ map (delivery now) delivered ++ last

-- they were made
pub record HasDelivered {C : Type 0} (makes : Steps C) (now : ℕ) (x : C) (result : Result ℕ AllocError) (y : C) : Type 0 where
  pub steps : List (Event × Option Said)
  pub are : AreDeliveries now result steps
  pub made : Makes makes x steps y
