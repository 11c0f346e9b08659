-- At which readings of the flusher's clock deliveries and checks are made.
use Rattle.std.specs.Prelude.{◌≡◌, ℕ, ◌++◌, List, [], ◌∷◌}
use Rattle.broker_events.specs.declared.event.Event.{Event}
use Rattle.broker_events.specs.declared.event.Event.TheVariants as events
use Rattle.session.specs.Serving.{Made}
use Rattle.event_loops.specs.Timing.{ClockOver, clock_over}

-- the event is neither a delivery nor a check, or one at a reading of which this holds
abbrev pub IsDueAt : (ℕ → Type 0) → Event → Type 0
IsDueAt P (events.Request link host now request) = Unit {0}
IsDueAt P events.Take = Unit {0}
IsDueAt P (events.Flushed receipt) = Unit {0}
IsDueAt P (events.FlushFailed count) = Unit {0}
IsDueAt P (events.Look number turn) = Unit {0}
IsDueAt P (events.Dispatch most) = Unit {0}
IsDueAt P (events.Deliver now) = P now
IsDueAt P (events.Check now) = P now
IsDueAt P (events.Leave link) = Unit {0}

-- each delivery and each check among these steps is at such a reading
abbrev pub AreDueAt : (ℕ → Type 0) → Made → Type 0
AreDueAt P [] = Unit {0}
AreDueAt P (step ∷ steps) = IsDueAt P step.0 × AreDueAt P steps

-- each of them is at this reading
abbrev pub AreDueNow : ℕ → Made → Type 0
AreDueNow now made = AreDueAt (λ at. at ≡ now) made

-- none of these steps is a delivery or a check
abbrev pub AreNotDue : Made → Type 0
AreNotDue made = AreDueAt (λ at. ⊥) made

-- Steps of rounds, one for each of these readings, in order: each made its deliveries and checks at its reading. Behind the last one
-- are steps that are neither.
abbrev pub AreRounds : List ℕ → Made → Type 0
AreRounds [] made = AreNotDue made
AreRounds (now ∷ readings) made = (round rest : Made) × (made ≡ round ++ rest) × AreDueNow now round × AreRounds readings rest

-- what the clock gave are the readings of the rounds by which these steps were made; a round may have made none
pub record IsAttendedBy (old : List ℕ) (made : Made) (new : List ℕ) : Type 0 where
  pub readings : List ℕ
  pub gave : new ≡ old ++ readings
  pub rounds : AreRounds readings made

-- the same of this clock, where it tells
abbrev pub IsAttended : ClockOver → Made → Type 0
IsAttended clock made = clock.tells → IsAttendedBy clock.old made clock.new

-- how a flusher sees its clock: that it tells what it gave, and what that was
pub record ClockView (K : Type 0) : Type 1 where
  pub tells : Type 0
  pub readings : K → List ℕ

abbrev pub clock_view : {K : Type 0} → Type 0 → (K → List ℕ) → ClockView K
clock_view tells readings = record { tells = tells; readings = readings }

-- the clock from the one to the other
abbrev pub clock_from : {K : Type 0} → ClockView K → K → K → ClockOver
clock_from view old new = clock_over view.tells (view.readings old) (view.readings new)
