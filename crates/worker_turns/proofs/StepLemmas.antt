-- Steps of which the disk knows nothing, and the acts that they are.
use Rattle.std.proofs.Common.{◌≡◌, ◌++◌, List, [], ◌∷◌, Option, refl, sym, subst}
use Rattle.broker_events.specs.Makes.{Makes}
use Rattle.broker_events.specs.declared.event.Event.{Event}
use Rattle.broker_events.specs.declared.said.Said.{Said}
use Rattle.worker_turns.specs.Turns.{Steps}
use Rattle.worker_turns.specs.Acts.{Made, DiskView, Place, Acts, IsBetween, change_of}
use Rattle.worker_turns.specs.Due.{acts_of_steps}
use Rattle.worker_turns.proofs.ActLemmas.{IsOther, still, one_step, takes_none, acts_then}

-- each of these steps has this event
abbrev pub AreOf : Event → List (Event × Option Said) → Type 0
AreOf e [] = Unit {0}
AreOf e (step ∷ steps) = (step.0 ≡ e) × AreOf e steps

pub of_append : (e : Event) (first later : List (Event × Option Said)) → AreOf e first → AreOf e later → AreOf e (first ++ later)
of_append e [] later are more = more
of_append e (step ∷ first) later are more = (are.0, of_append e first later are.1 more)

-- no step is of each event
pub of_none : (e : Event) (last : List (Event × Option Said)) → last ≡ [] → AreOf e last
of_none e last none = subst (λ (l : List (Event × Option Said)). AreOf e l) (sym none) tt

-- a last one
pub of_one : (e : Event) (what : Option Said) (last : List (Event × Option Said)) → ◌≡◌ {A = List (Event × Option Said)} last ((e, what) ∷ []) → AreOf e last
of_one e what last is = subst (λ (l : List (Event × Option Said)). AreOf e l) (sym is) (refl, tt)

module _ {C D : Type 0} (makes : Steps C) (view : DiskView D) (p : Place D) where
  -- a step that takes no batch and flushes none leaves the disk as it is
  one_other : (e is : Event) (what : Option Said) (x y : C) → is ≡ e → IsBetween e → IsOther e → makes x is what y → Acts makes view (Made is what ∷ []) (change_of x p y p)
  one_other e is what x y same between other made =
      subst (λ (it : Event). Acts makes view (Made it what ∷ []) (change_of x p y p)) (sym same)
      (one_step makes view e what x y p p between (takes_none e what other) (subst (λ (it : Event). makes x it what y) same made) refl)

  pub steps_acts : (e : Event) (steps : List (Event × Option Said)) (x y : C) → IsBetween e → IsOther e → AreOf e steps → Makes makes x steps y → Acts makes view (acts_of_steps steps) (change_of x p y p)
  steps_acts e [] x y between other are made = subst (λ (w : C). Acts makes view [] (change_of x p w p)) made (still makes view x p)
  steps_acts e (step ∷ steps) x y between other are made =
      acts_then makes view (Made step.0 step.1 ∷ []) (acts_of_steps steps) x made.0 y p p p
      (one_other e step.0 step.1 x made.0 are.0 between other made.1) (steps_acts e steps made.0 y between other are.1 made.2)
