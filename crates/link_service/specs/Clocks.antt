-- At which readings of the clock requests are given to the broker.
use Rattle.std.specs.Prelude.{◌≡◌, ℕ, [], ◌∷◌}
use Rattle.broker_events.specs.declared.event.Event.{Event}
use Rattle.broker_events.specs.declared.event.Event.TheVariants as events
use Rattle.session.specs.Owing.{Steps}
use Rattle.session.specs.Serving.{Made}

-- the event is no request, or one at a reading of which this holds
abbrev pub IsAt : (ℕ → Type 0) → Event → Type 0
IsAt P (events.Request link host now request) = P now
IsAt P events.Take = Unit {0}
IsAt P (events.Flushed receipt) = Unit {0}
IsAt P (events.FlushFailed count) = Unit {0}
IsAt P (events.Look number turn) = Unit {0}
IsAt P (events.Dispatch most) = Unit {0}
IsAt P (events.Deliver now) = Unit {0}
IsAt P (events.Check now) = Unit {0}
IsAt P (events.Leave link) = Unit {0}

-- each request among these steps is at such a reading
abbrev pub AreAt : (ℕ → Type 0) → Made → Type 0
AreAt P [] = Unit {0}
AreAt P (step ∷ steps) = IsAt P step.0 × AreAt P steps

-- steps of the same maker, whose requests are at such readings
abbrev pub steps_at : {C : Type 0} → (ℕ → Type 0) → Steps C → Steps C
steps_at P makes x event said y = makes x event said y × IsAt P event

-- steps of the same maker, whose requests are at this reading
abbrev pub at_reading : {C : Type 0} → ℕ → Steps C → Steps C
at_reading now makes = steps_at (λ at. at ≡ now) makes

-- steps of the same maker, none of which is a request
abbrev pub unasked : {C : Type 0} → Steps C → Steps C
unasked makes = steps_at (λ at. ⊥) makes
