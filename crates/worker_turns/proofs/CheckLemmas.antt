-- Checks, one behind another, and the looks for their asks.
use Rattle.std.proofs.Common.{◌≡◌, ℕ, ◌+◌, ◌++◌, List, [], ◌∷◌, map, length, Option, Some, None, Result, Ok, Err, inl, inr, refl, sym, ap, ◌∙◌, subst, arith, append-nil, append_assoc}
use Rattle.std.specs.Prelude.{flat_map}
use Rattle.std.proofs.lemmas.List.{map-append, length-append, flat_map_more}
use Rattle.std.specs.declared.alloc.AllocError.{AllocError}
use Rattle.reply_fields.specs.Parts.{AskParts}
use Rattle.broker_events.specs.Makes.{Makes}
use Rattle.broker_events.specs.declared.event.Event.{Event}
use Rattle.broker_events.specs.declared.event.Event.TheVariants.{Check, Look}
use Rattle.broker_events.specs.declared.said.Said.{Said}
use Rattle.broker_events.specs.declared.said.Said.TheVariants as said
use Rattle.broker_events.specs.declared.said.Checked.{Checked}
use Rattle.broker_events.specs.declared.said.Awaited.{Awaited}
use Rattle.broker_events.proofs.Makes.{makes_snoc}
use Rattle.worker_turns.specs.Turns.{Steps}
use Rattle.worker_turns.specs.Acts.{Made, DiskView, Place, Acts, Acted, change_of}
use Rattle.worker_turns.specs.Checks.{check, Checks, most_checked, IsLastCheck, EndsChecking, held_by, AreChecks, HasChecked, Looked, held_as, look, ripe_by, ripe_of, waiting_by, waiting_of, HasLooked}
use Rattle.worker_turns.specs.Due.{acts_of_steps, AreCheckActs}
use Rattle.worker_turns.proofs.ActLemmas.{still, one_step, takes_none, acts_then}
use Rattle.worker_turns.proofs.StepLemmas.{AreOf, of_append, of_none, of_one, steps_acts}

-- so many checks were made, and nothing else, and their asks are held
pub record HasCheckedOnly {C : Type 0} (makes : Steps C) (now : ℕ) (x : C) (held : List (ℕ × AskParts)) (count : ℕ) (y : C) (held_then : List (ℕ × AskParts)) : Type 0 where
  pub done : List Checked
  pub long : length done ≡ count
  pub made : Makes makes x (map (check now) done) y
  pub holds : held_then ≡ held ++ flat_map held_by done

-- what each of some things has, with what one more has
items_more : {X A : Type 0} (f : X → List A) (start mid new : List A) (xs : List X) (it : X) → mid ≡ start ++ flat_map f xs → new ≡ mid ++ f it → new ≡ start ++ flat_map f (xs ++ it ∷ [])
items_more {X} {A} f start mid new xs it before more = more ∙ ap (λ (l : List A). l ++ f it) before ∙ flat_map_more f start xs it

module _ {C : Type 0} (makes : Steps C) (now : ℕ) (x : C) (held : List (ℕ × AskParts)) where
  pub checked_none : HasCheckedOnly makes now x held 0 x held
  checked_none = record { done = []; long = refl; made = refl; holds = sym (append-nil held) }

  -- one more
  pub checked_more : (count : ℕ) (it : Checked) (y z : C) (mid before new : List (ℕ × AskParts)) → HasCheckedOnly makes now x held count y mid → Checks makes now y (Ok (Some it)) z → before ≡ mid → new ≡ before ++ held_by it
      → HasCheckedOnly makes now x held (count + 1) z new
  checked_more count it y z mid before new so_far more same holds = record {
    done = so_far.done ++ it ∷ [];
    long = omega (arith, length-append so_far.done (it ∷ []), so_far.long);
    made = subst (λ (l : List (Event × Option Said)). Makes makes x l z) (sym (map-append (check now) so_far.done (it ∷ [])))
        (makes_snoc makes x (map (check now) so_far.done) y (Check now) (Some (said.Checked (Some it))) z so_far.made more);
    holds = items_more held_by held before new so_far.done it (same ∙ so_far.holds) holds;
  }

  -- nothing is due, or can be checked
  pub checked_all : (count : ℕ) (y z : C) (mid new : List (ℕ × AskParts)) → HasCheckedOnly makes now x held count y mid → Checks makes now y (Ok None) z → new ≡ mid → HasChecked makes now x held (Ok count) z new
  checked_all count y z mid new before none same = record {
    steps = map (check now) before.done ++ (Check now, Some none.0) ∷ [];
    asked = flat_map held_by before.done;
    are = record { done = before.done; last = (Check now, Some none.0) ∷ []; ends = (before.long, inl (none.0, none.1, refl)); are = refl; asks = refl };
    made = makes_snoc makes x (map (check now) before.done) y (Check now) (Some none.0) z before.made none.2;
    holds = same ∙ before.holds;
  }

  -- memory ran out at a check
  pub checked_some : (fault : AllocError) (count : ℕ) (y z : C) (mid new : List (ℕ × AskParts)) → HasCheckedOnly makes now x held count y mid → Checks makes now y (Err fault) z → new ≡ mid → HasChecked makes now x held (Err fault) z new
  checked_some fault count y z mid new before none same = record {
    steps = map (check now) before.done ++ (Check now, None) ∷ [];
    asked = flat_map held_by before.done;
    are = record { done = before.done; last = (Check now, None) ∷ []; ends = inl refl; are = refl; asks = refl };
    made = makes_snoc makes x (map (check now) before.done) y (Check now) None z before.made none;
    holds = same ∙ before.holds;
  }

  -- or before it
  no_event : (result : Result ℕ AllocError) (y : C) (mid new : List (ℕ × AskParts)) (count : ℕ) (before : HasCheckedOnly makes now x held count y mid) → AreChecks now (flat_map held_by before.done) result (map (check now) before.done ++ [])
      → new ≡ mid → HasChecked makes now x held result y new
  no_event result y mid new count before are same = record {
    steps = map (check now) before.done ++ [];
    asked = flat_map held_by before.done;
    are = are;
    made = subst (λ (l : List (Event × Option Said)). Makes makes x l y) (sym (append-nil (map (check now) before.done))) before.made;
    holds = same ∙ before.holds;
  }

  pub checked_before : (fault : AllocError) (count : ℕ) (y : C) (mid new : List (ℕ × AskParts)) → HasCheckedOnly makes now x held count y mid → new ≡ mid → HasChecked makes now x held (Err fault) y new
  checked_before fault count y mid new before same =
      no_event (Err fault) y mid new count before (record { done = before.done; last = []; ends = inr refl; are = refl; asks = refl }) same

  -- as many as one turn makes
  pub checked_most : (count : ℕ) (y : C) (mid new : List (ℕ × AskParts)) → HasCheckedOnly makes now x held count y mid → count ≡ most_checked → new ≡ mid → HasChecked makes now x held (Ok count) y new
  checked_most count y mid new before most same =
      no_event (Ok count) y mid new count before (record { done = before.done; last = []; ends = (before.long, inr (before.long ∙ most, refl)); are = refl; asks = refl }) same

-- ---- looks

module _ {C : Type 0} (makes : Steps C) (x : C) (held : List (ℕ × AskParts)) (out : List AskParts) where
  -- some of the asks were looked for, and these are left
  pub record LooksSoFar (asked rest : List (ℕ × AskParts)) (y : C) (held_then : List (ℕ × AskParts)) (out_then : List AskParts) : Type 0 where
    pub looks : List Looked
    pub are : asked ≡ map held_as looks ++ rest
    pub made : Makes makes x (map look looks) y
    pub held_is : held_then ≡ held ++ waiting_of looks
    pub out_is : out_then ≡ out ++ ripe_of looks

  pub looked_none : (asked rest : List (ℕ × AskParts)) → rest ≡ asked → LooksSoFar asked rest x held out
  looked_none asked rest same = record { looks = []; are = sym same; made = refl; held_is = sym (append-nil held); out_is = sym (append-nil out) }

  -- one more
  pub looked_one : (asked rest left : List (ℕ × AskParts)) (number : ℕ) (ask : AskParts) (what : Awaited) (y z : C) (mid new : List (ℕ × AskParts)) (out_mid out_new : List AskParts)
      → LooksSoFar asked rest y mid out_mid → rest ≡ (number, ask) ∷ left → makes y (Look number 0) (Some (said.Awaited what)) z → new ≡ mid ++ waiting_by what (number, ask) → out_new ≡ out_mid ++ ripe_by what ask
      → LooksSoFar asked left z new out_new
  looked_one asked rest left number ask what y z mid new out_mid out_new so_far next made waits ripe =
      let it : Looked = record { number = number; ask = ask; what = what } in
      let looks : List Looked = so_far.looks in
      record {
        looks = looks ++ it ∷ [];
        are = so_far.are ∙ ap (λ (l : List (ℕ × AskParts)). map held_as looks ++ l) next ∙ sym (append_assoc (map held_as looks) ((number, ask) ∷ []) left)
            ∙ ap (λ (l : List (ℕ × AskParts)). l ++ left) (sym (map-append held_as looks (it ∷ [])));
        made = subst (λ (l : List (Event × Option Said)). Makes makes x l z) (sym (map-append look looks (it ∷ [])))
            (makes_snoc makes x (map look looks) y (Look number 0) (Some (said.Awaited what)) z so_far.made made);
        held_is = items_more (λ (l : Looked). waiting_by l.what (held_as l)) held mid new looks it so_far.held_is waits;
        out_is = items_more (λ (l : Looked). ripe_by l.what l.ask) out out_mid out_new looks it so_far.out_is ripe;
      }

  -- all
  pub looked_all : (asked rest : List (ℕ × AskParts)) (y : C) (held_then : List (ℕ × AskParts)) (out_then : List AskParts) → LooksSoFar asked rest y held_then out_then → rest ≡ []
      → HasLooked makes x asked held out y held_then out_then
  looked_all asked rest y held_then out_then so_far none = record {
    looks = so_far.looks;
    are = so_far.are ∙ ap (λ (l : List (ℕ × AskParts)). map held_as so_far.looks ++ l) none ∙ append-nil (map held_as so_far.looks);
    made = so_far.made;
    held_is = so_far.held_is;
    out_is = so_far.out_is;
  }

-- ---- acts

checking_made : (now : ℕ) (done : List Checked) → AreOf (Check now) (map (check now) done)
checking_made now [] = tt
checking_made now (it ∷ done) = (refl, checking_made now done)

last_checking : (now : ℕ) (done : List Checked) (last : List (Event × Option Said)) → IsLastCheck now done last → AreOf (Check now) last
last_checking now done last (inl it) = of_one (Check now) (Some it.0) last it.2
last_checking now done last (inr it) = of_none (Check now) last it.1

ends_checking : (now : ℕ) (done : List Checked) (result : Result ℕ AllocError) (last : List (Event × Option Said)) → EndsChecking now done result last → AreOf (Check now) last
ends_checking now done (Ok count) last it = last_checking now done last it.1
ends_checking now done (Err fault) last (inl it) = of_one (Check now) None last it
ends_checking now done (Err fault) last (inr it) = of_none (Check now) last it

all_checking : (now : ℕ) (asked : List (ℕ × AskParts)) (result : Result ℕ AllocError) (steps : List (Event × Option Said)) → AreChecks now asked result steps → AreOf (Check now) steps
all_checking now asked result steps it =
    subst (λ (l : List (Event × Option Said)). AreOf (Check now) l) (sym it.are)
    (of_append (Check now) (map (check now) it.done) it.last (checking_made now it.done) (ends_checking now it.done result it.last it.ends))

module _ {C D : Type 0} (makes : Steps C) (view : DiskView D) (p : Place D) where
  -- a check turn
  pub check_acted : (now : ℕ) (held held_then : List (ℕ × AskParts)) (result : Result ℕ AllocError) (x y : C) → HasChecked makes now x held result y held_then → Acted makes view (AreCheckActs now held result held_then) (change_of x p y p)
  check_acted now held held_then result x y it = record {
    acts = acts_of_steps it.steps;
    kind = record { steps = it.steps; asked = it.asked; are = it.are; holds = it.holds; acts_are = refl };
    happened = steps_acts makes view p (Check now) it.steps x y tt tt (all_checking now it.asked result it.steps it.are) it.made;
  }

  -- looks
  pub look_acts : (looks : List Looked) (x y : C) → Makes makes x (map look looks) y → Acts makes view (acts_of_steps (map look looks)) (change_of x p y p)
  look_acts [] x y made = subst (λ (w : C). Acts makes view [] (change_of x p w p)) made (still makes view x p)
  look_acts (it ∷ looks) x y made =
      let what : Option Said = Some (said.Awaited it.what) in
      acts_then makes view (Made (Look it.number 0) what ∷ []) (acts_of_steps (map look looks)) x made.0 y p p p
      (one_step makes view (Look it.number 0) what x made.0 p p tt (takes_none (Look it.number 0) what tt) made.1 refl)
      (look_acts looks made.0 y made.2)
