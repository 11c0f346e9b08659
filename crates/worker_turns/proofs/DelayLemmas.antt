-- Deliveries, one behind another, and the acts that they are.
use Rattle.std.proofs.Common.{◌≡◌, ℕ, ◌+◌, ◌++◌, List, [], ◌∷◌, map, length, true, false, Option, Some, None, Result, Ok, Err, inl, inr, refl, sym, ◌∙◌, subst, arith, append-nil}
use Rattle.std.proofs.lemmas.List.{map-append, length-append}
use Rattle.std.specs.declared.alloc.AllocError.{AllocError}
use Rattle.broker_events.specs.Makes.{Makes}
use Rattle.broker_events.specs.declared.event.Event.{Event}
use Rattle.broker_events.specs.declared.event.Event.TheVariants.{Deliver}
use Rattle.broker_events.specs.declared.said.Said.{Said}
use Rattle.broker_events.specs.declared.said.Said.TheVariants as said
use Rattle.broker_events.proofs.Makes.{makes_snoc}
use Rattle.worker_turns.specs.Turns.{Steps}
use Rattle.worker_turns.specs.Acts.{DiskView, Place, Acted, change_of}
use Rattle.worker_turns.specs.Delays.{delivery, Delivers, most_delivered, IsLastOf, AreDeliveries, HasDelivered}
use Rattle.worker_turns.specs.Due.{acts_of_steps, AreDelayActs}
use Rattle.worker_turns.proofs.StepLemmas.{AreOf, of_append, of_none, of_one, steps_acts}

-- so many deliveries were made, and nothing else
pub record HasMadeOnly {C : Type 0} (makes : Steps C) (now : ℕ) (x : C) (count : ℕ) (y : C) : Type 0 where
  pub delivered : List (ℕ × ℕ)
  pub long : length delivered ≡ count
  pub made : Makes makes x (map (delivery now) delivered) y

module _ {C : Type 0} (makes : Steps C) (now : ℕ) (x : C) where
  pub made_none : HasMadeOnly makes now x 0 x
  made_none = record { delivered = []; long = refl; made = refl }

  -- one more
  pub made_more : (count : ℕ) (y z : C) → HasMadeOnly makes now x count y → Delivers makes now y (Ok true) z → HasMadeOnly makes now x (count + 1) z
  made_more count y z before more = record {
    delivered = before.delivered ++ more.0 ∷ [];
    long = omega (arith, length-append before.delivered (more.0 ∷ []), before.long);
    made = subst (λ (l : List (Event × Option Said)). Makes makes x l z) (sym (map-append (delivery now) before.delivered (more.0 ∷ [])))
        (makes_snoc makes x (map (delivery now) before.delivered) y (Deliver now) (Some (said.Delivered (Some more.0))) z before.made more.1);
  }

  -- nothing is due, or can be delivered
  pub made_all : (count : ℕ) (y z : C) → HasMadeOnly makes now x count y → Delivers makes now y (Ok false) z → HasDelivered makes now x (Ok count) z
  made_all count y z before none = record {
    steps = map (delivery now) before.delivered ++ (Deliver now, Some none.0) ∷ [];
    are = record { delivered = before.delivered; last = (Deliver now, Some none.0) ∷ []; ends = (before.long, inl (none.0, none.1, refl)); are = refl };
    made = makes_snoc makes x (map (delivery now) before.delivered) y (Deliver now) (Some none.0) z before.made none.2;
  }

  -- memory ran out
  pub made_some : (fault : AllocError) (count : ℕ) (y z : C) → HasMadeOnly makes now x count y → Delivers makes now y (Err fault) z → HasDelivered makes now x (Err fault) z
  made_some fault count y z before none = record {
    steps = map (delivery now) before.delivered ++ (Deliver now, None) ∷ [];
    are = record { delivered = before.delivered; last = (Deliver now, None) ∷ []; ends = refl; are = refl };
    made = makes_snoc makes x (map (delivery now) before.delivered) y (Deliver now) None z before.made none;
  }

  -- as many as one turn makes
  pub made_most : (count : ℕ) (y : C) → HasMadeOnly makes now x count y → count ≡ most_delivered → HasDelivered makes now x (Ok count) y
  made_most count y before most = record {
    steps = map (delivery now) before.delivered ++ [];
    are = record { delivered = before.delivered; last = []; ends = (before.long, inr (before.long ∙ most, refl)); are = refl };
    made = subst (λ (l : List (Event × Option Said)). Makes makes x l y) (sym (append-nil (map (delivery now) before.delivered))) before.made;
  }

-- ---- acts

delivering_made : (now : ℕ) (delivered : List (ℕ × ℕ)) → AreOf (Deliver now) (map (delivery now) delivered)
delivering_made now [] = tt
delivering_made now (what ∷ delivered) = (refl, delivering_made now delivered)

last_delivering : (now : ℕ) (delivered : List (ℕ × ℕ)) (last : List (Event × Option Said)) → IsLastOf now delivered last → AreOf (Deliver now) last
last_delivering now delivered last (inl it) = of_one (Deliver now) (Some it.0) last it.2
last_delivering now delivered last (inr it) = of_none (Deliver now) last it.1

ends_delivering : (now : ℕ) (result : Result ℕ AllocError) (steps : List (Event × Option Said)) → AreDeliveries now result steps → AreOf (Deliver now) steps
ends_delivering now (Ok count) steps it =
    subst (λ (l : List (Event × Option Said)). AreOf (Deliver now) l) (sym it.are)
    (of_append (Deliver now) (map (delivery now) it.delivered) it.last (delivering_made now it.delivered) (last_delivering now it.delivered it.last it.ends.1))
ends_delivering now (Err fault) steps it =
    subst (λ (l : List (Event × Option Said)). AreOf (Deliver now) l) (sym it.are)
    (of_append (Deliver now) (map (delivery now) it.delivered) it.last (delivering_made now it.delivered) (of_one (Deliver now) None it.last it.ends))

-- a delay turn
pub delay_acted : {C D : Type 0} (makes : Steps C) (view : DiskView D) (p : Place D) (now : ℕ) (result : Result ℕ AllocError) (x y : C) → HasDelivered makes now x result y
    → Acted makes view (AreDelayActs now result) (change_of x p y p)
delay_acted makes view p now result x y it = record {
  acts = acts_of_steps it.steps;
  kind = (it.steps, it.are, refl);
  happened = steps_acts makes view p (Deliver now) it.steps x y tt tt (ends_delivering now result it.steps it.are) it.made;
}
