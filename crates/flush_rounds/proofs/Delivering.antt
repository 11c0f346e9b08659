-- Deliveries, checks and looks, one behind another.
use Rattle.std.proofs.Common.{◌≡◌, ℕ, ◌+◌, ◌++◌, List, [], ◌∷◌, map, length, true, false, Option, Some, None, Ok, Err, inl, inr, ⊎_elim, refl, sym, subst, arith, append-nil}
use Rattle.std.proofs.lemmas.List.{map-append, length-append}
use Rattle.std.specs.declared.alloc.AllocError.{AllocError}
use Rattle.broker_events.specs.Makes.{Makes}
use Rattle.broker_events.specs.declared.event.Event.{Event}
use Rattle.broker_events.specs.declared.event.Event.TheVariants.{Deliver}
use Rattle.broker_events.specs.declared.said.Said.{Said}
use Rattle.broker_events.specs.declared.said.Said.TheVariants as said
use Rattle.broker_events.proofs.Makes.{makes_snoc}
use Rattle.broker_core.specs.Owner.{plain_look}
use Rattle.worker_turns.specs.Turns.{Steps}
use Rattle.worker_turns.specs.Delays.{delivery, Delivers}
use Rattle.flush_rounds.specs.Deliveries.{most_at_once, FoundNone, EndsAt, DeliversSome, AreOfDuties, MakesDuties}
use Rattle.flush_rounds.specs.Timing.{AreDueNow, AreNotDue}
use Rattle.flush_rounds.proofs.Timing.{due_then}

abbrev Entries : Type 0
Entries = List (Event × Option Said)

-- ---- their kind

delivered_are : (now : ℕ) (delivered : List (ℕ × ℕ)) → AreOfDuties (map (delivery now) delivered)
delivered_are now [] = tt
delivered_are now (what ∷ delivered) = (inl (now, refl), delivered_are now delivered)

pub append_are : (first later : Entries) → AreOfDuties first → AreOfDuties later → AreOfDuties (first ++ later)
append_are [] later are more = more
append_are (step ∷ first) later are more = (are.0, append_are first later are.1 more)

last_are : (now count : ℕ) (last : Entries) → EndsAt now count last → AreOfDuties last
last_are now count last ends =
    ⊎_elim (λ one. subst (λ (l : Entries). AreOfDuties l) (sym one.2) (inl (now, refl), tt))
    (λ none. subst (λ (l : Entries). AreOfDuties l) (sym none.1) tt) ends

-- ---- their readings

delivered_now : (now : ℕ) (delivered : List (ℕ × ℕ)) → AreDueNow now (map (delivery now) delivered)
delivered_now now [] = tt
delivered_now now (what ∷ delivered) = (refl, delivered_now now delivered)

last_now : (now count : ℕ) (last : Entries) → EndsAt now count last → AreDueNow now last
last_now now count last ends =
    ⊎_elim (λ one. subst (λ (l : Entries). AreDueNow now l) (sym one.2) (refl, tt))
    (λ none. subst (λ (l : Entries). AreDueNow now l) (sym none.1) tt) ends

-- so many deliveries were made at this reading, and nothing else
pub record HasMadeOnly {C : Type 0} (makes : Steps C) (now : ℕ) (x : C) (count : ℕ) (y : C) : Type 0 where
  pub delivered : List (ℕ × ℕ)
  pub long : length delivered ≡ count
  pub made : Makes makes x (map (delivery now) delivered) y

module _ {C : Type 0} (makes : Steps C) where
  -- ---- so many at a reading

  pub made_none : (now : ℕ) (x : C) → HasMadeOnly makes now x 0 x
  made_none now x = record { delivered = []; long = refl; made = refl }

  -- one more
  pub made_more : (now count : ℕ) (x y z : C) → HasMadeOnly makes now x count y → Delivers makes now y (Ok true) z → HasMadeOnly makes now x (count + 1) z
  made_more now count x y z before more = record {
    delivered = before.delivered ++ more.0 ∷ [];
    long = omega (arith, length-append before.delivered (more.0 ∷ []), before.long);
    made = subst (λ (l : Entries). Makes makes x l z) (sym (map-append (delivery now) before.delivered (more.0 ∷ [])))
        (makes_snoc makes x (map (delivery now) before.delivered) y (Deliver now) (Some (said.Delivered (Some more.0))) z before.made more.1);
  }

  some_ended : (now count : ℕ) (what : Option Said) (x y z : C) → HasMadeOnly makes now x count y → FoundNone what → makes y (Deliver now) what z → DeliversSome makes now x count z
  some_ended now count what x y z before none made = record {
    delivered = before.delivered;
    last = (Deliver now, what) ∷ [];
    long = before.long;
    ends = inl (what, none, refl);
    made = makes_snoc makes x (map (delivery now) before.delivered) y (Deliver now) what z before.made made;
  }

  -- one delivered nothing
  pub some_then : (now count : ℕ) (x y z : C) → HasMadeOnly makes now x count y → Delivers makes now y (Ok false) z → DeliversSome makes now x count z
  some_then now count x y z before none = some_ended now count (Some none.0) x y z before none.1 none.2

  -- memory ran out
  pub some_without : (now count : ℕ) (fault : AllocError) (x y z : C) → HasMadeOnly makes now x count y → Delivers makes now y (Err fault) z → DeliversSome makes now x count z
  some_without now count fault x y z before made = some_ended now count None x y z before tt made

  -- as many as are made at once
  pub some_most : (now count : ℕ) (x y : C) → HasMadeOnly makes now x count y → count ≡ most_at_once → DeliversSome makes now x count y
  some_most now count x y before most = record {
    delivered = before.delivered;
    last = [];
    long = before.long;
    ends = inr (most, refl);
    made = subst (λ (l : Entries). Makes makes x l y) (sym (append-nil (map (delivery now) before.delivered))) before.made;
  }

  -- ---- all of them

  pub no_duties : (x : C) → MakesDuties makes AreNotDue x x
  no_duties x = record { steps = []; are = tt; due = tt; made = refl }

  pub look_made : (what : Option Said) (x y : C) → makes x plain_look what y → MakesDuties makes AreNotDue x y
  look_made what x y made = record { steps = (plain_look, what) ∷ []; are = (inr (inr (0, refl)), tt); due = (tt, tt); made = (y, made, refl) }

  pub some_made : (now count : ℕ) (x y : C) → DeliversSome makes now x count y → MakesDuties makes (AreDueNow now) x y
  some_made now count x y it = record {
    steps = map (delivery now) it.delivered ++ it.last;
    are = append_are (map (delivery now) it.delivered) it.last (delivered_are now it.delivered) (last_are now count it.last it.ends);
    due = due_then now (map (delivery now) it.delivered) it.last (delivered_now now it.delivered) (last_now now count it.last it.ends);
    made = it.made;
  }
