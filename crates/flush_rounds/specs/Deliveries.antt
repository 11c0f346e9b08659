-- What the flusher does besides flush turns: it looks when something is next due, delivers messages, checks half messages, and looks
-- what became of the records of checks.
use Rattle.std.specs.Prelude.{◌≡◌, ◌⊎◌, ◌<◌, ℕ, ◌++◌, List, [], ◌∷◌, length, map, min}
use Rattle.std.specs.Prelude.{is_some, Option, Some, None, IfSome}
use Rattle.log_model.specs.Delays.{due_delayed}
use Rattle.delay_view.specs.Levels.{has_come}
use Rattle.broker_model.specs.Appended.{due_origin}
use Rattle.broker_model.specs.State.{State}
use Rattle.broker_events.specs.Makes.{Makes}
use Rattle.broker_events.specs.declared.event.Event.{Event}
use Rattle.broker_events.specs.declared.event.Event.TheVariants.{Deliver, Check, Look}
use Rattle.broker_events.specs.declared.said.Said.{Said}
use Rattle.core_log.specs.Represents.{Represents}
use Rattle.core_log.specs.declared.parts.Parts.{Parts}
use Rattle.worker_turns.specs.Turns.{Steps}
use Rattle.worker_turns.specs.Delays.{delivery, DeliversNone}

-- ---- when something is next due

-- in the core a delivery delivers from this time on, and none does before it
abbrev pub IsNextDelivery : Parts → Option ℕ → Type 0
IsNextDelivery core next = (s : State) (now : ℕ) → Represents core s
    → has_come now next ≡ is_some (due_delayed s.log s.dispatched now)

-- in the core no check checks anything before this time
abbrev pub IsNextCheck : Parts → Option ℕ → Type 0
IsNextCheck core next = (s : State) (now : ℕ) → Represents core s → IfSome next (λ time. now < time) → due_origin s now ≡ None

-- the earlier of two times, each of which may be none
abbrev pub sooner_of : Option ℕ → Option ℕ → Option ℕ
sooner_of None other = other
sooner_of (Some one) None = Some one
sooner_of (Some one) (Some other) = Some (min one other)

-- it is the earlier of when the next delivery and the next check are due
pub record IsNextDue (core : Parts) (next : Option ℕ) : Type 0 where
  pub delivery : Option ℕ
  pub check : Option ℕ
  pub delivers : IsNextDelivery core delivery
  pub checks : IsNextCheck core check
  pub sooner : next ≡ sooner_of delivery check

-- ---- deliveries

-- how many messages are delivered at most before what that appended is flushed
abbrev pub most_at_once : ℕ
most_at_once = 256

-- nothing was delivered, or memory ran out
abbrev pub FoundNone : Option Said → Type 0
FoundNone None = Unit {0}
FoundNone (Some what) = DeliversNone what

-- behind these deliveries one more event delivered nothing; or they are as many as are made at once
abbrev pub EndsAt : ℕ → ℕ → List (Event × Option Said) → Type 0
EndsAt now count last = ((what : Option Said) × FoundNone what × (last ≡ (Deliver now, what) ∷ []))
    ⊎ ((count ≡ most_at_once) × (last ≡ []))

-- so many messages were delivered at this reading
pub record DeliversSome {C : Type 0} (makes : Steps C) (now : ℕ) (x : C) (count : ℕ) (y : C) : Type 0 where
  pub delivered : List (ℕ × ℕ)
  pub last : List (Event × Option Said)
  pub long : length delivered ≡ count
  pub ends : EndsAt now count last
  pub made : Makes makes x (map (delivery now) delivered ++ last) y

-- ---- all of them

-- the event delivers a message, checks a half message, or looks
abbrev pub IsOfDuties : Event → Type 0
IsOfDuties event = ((now : ℕ) × (event ≡ Deliver now)) ⊎ ((now : ℕ) × (event ≡ Check now))
    ⊎ ((number : ℕ) × (event ≡ Look number 0))

-- each of these does
abbrev pub AreOfDuties : List (Event × Option Said) → Type 0
AreOfDuties [] = Unit {0}
AreOfDuties (step ∷ steps) = IsOfDuties step.0 × AreOfDuties steps

-- steps of this kind were made, and no others, of which this holds
pub record MakesDuties {C : Type 0} (makes : Steps C) (P : List (Event × Option Said) → Type 0) (x y : C) : Type 0 where
  pub steps : List (Event × Option Said)
  pub are : AreOfDuties steps
  pub due : P steps
  pub made : Makes makes x steps y
