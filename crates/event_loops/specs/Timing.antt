-- A loop's passes, each at one reading of its clock.
use Rattle.std.specs.Prelude.{◌≡◌, ℕ, ◌++◌, List, [], ◌∷◌}
use Rattle.session.specs.Readers.{ReaderView}
use Rattle.session.specs.Serving.{Made}
use Rattle.link_service.specs.Clocks.{AreAt}
use Rattle.event_loops.specs.Tales.{Act, GoesOn, LoopView, steps_of}
use Rattle.event_loops.specs.declared.links.Links.{Links}

-- Steps of passes, one for each of these readings, in order: each gave its requests to the broker at its reading. Behind the last one
-- are steps that are no requests.
abbrev pub ArePasses : List ℕ → Made → Type 0
ArePasses [] made = AreAt (λ at. ⊥) made
ArePasses (now ∷ readings) made = (pass rest : Made) × (made ≡ pass ++ rest) × AreAt (λ at. at ≡ now) pass × ArePasses readings rest

-- what the clock gave are the readings of the passes by which these steps were made; a pass may have made none
pub record IsTimedBy (old : List ℕ) (made : Made) (new : List ℕ) : Type 0 where
  pub readings : List ℕ
  pub gave : new ≡ old ++ readings
  pub passes : ArePasses readings made

-- a clock over a run: that it tells what it gave, and what that was before the run and behind it
pub record ClockOver : Type 1 where
  pub tells : Type 0
  pub old : List ℕ
  pub new : List ℕ

abbrev pub clock_over : Type 0 → List ℕ → List ℕ → ClockOver
clock_over tells old new = record { tells = tells; old = old; new = new }

-- the same of this clock, where it tells
abbrev pub IsTimed : ClockOver → Made → Type 0
IsTimed clock made = clock.tells → IsTimedBy clock.old made clock.new

-- the loop went on by these acts, in passes that its clock timed
pub record GoesTimed {L N : Type 0} (view : LoopView L N) (reader : ReaderView) (clock : ClockOver) (old : Links L N) (acts : List Act)
    (new : Links L N) : Type 0 where
  pub went : GoesOn view reader old acts new
  pub timed : IsTimed clock (steps_of acts)
