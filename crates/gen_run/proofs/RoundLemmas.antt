-- Rounds of the worker, and items, one behind another.
use Rattle.std.proofs.Common.{◌≡◌, ◌≢◌, ◌≤◌, ◌<◌, ◌⊎◌, inl, inr, min, ℕ, ◌+◌, ◌-◌, ◌^◌, List, [], ◌∷◌, ◌++◌, length, Result, Ok, Err, refl, sym, ap, ◌∙◌, subst, arith, append_assoc, append-nil}
use Rattle.std.proofs.lemmas.List.{length-append}
use Rattle.std.specs.Prelude.{flat_map}
use Rattle.reply_fields.specs.Parts.{AskParts}
use Rattle.worker_turns.specs.Turns.{Steps}
use Rattle.worker_turns.specs.Acts.{Act, Made, Wrote, Missed, DiskView, Place, Happens, Acts, Acted, change_of}
use Rattle.worker_turns.specs.Due.{DueTurns}
use Rattle.worker_turns.proofs.ActLemmas.{acted_then}
use Rattle.mq_outside.specs.Counts.{Rises}
use Rattle.gen_run.specs.Rounds.{IsNoMiss, NoneMissed, IsRound, MakesRound, GivesBefore, IsPart, GivesSteps, GivesPart, AreParts, AreItems, AreSomeItems, AreLast, MakesLast, AreAll}
use Rattle.gen_run.specs.declared.stop.Stop.{Stop}

-- ---- parts

-- one item more
parts_snoc : (start i found more : ℕ) (parts : List (List Act)) (last : List Act) → AreParts start i found parts → IsPart start (i + length parts) more last → AreParts start i (found + more) (parts ++ last ∷ [])
parts_snoc start i found more [] last are is =
    (more, 0, subst (λ (n : ℕ). IsPart start n more last) (omega arith) is, refl, omega (arith, are))
parts_snoc start i found more (part ∷ parts) last are is =
    (are.0, are.1 + more, are.2, parts_snoc start (i + 1) are.1 more parts last are.3 (subst (λ (n : ℕ). IsPart start n more last) (omega arith) is), omega (arith, are.4))

flat_snoc : (parts : List (List Act)) (last : List Act) → flat_map (λ (part : List Act). part) (parts ++ last ∷ []) ≡ flat_map (λ (part : List Act). part) parts ++ last
flat_snoc [] last = append-nil last
flat_snoc (part ∷ parts) last = ap (λ (l : List Act). part ++ l) (flat_snoc parts last) ∙ sym (append_assoc part (flat_map (λ (p : List Act). p) parts) last)

pub items_none : (start : ℕ) → AreItems start 0 0 []
items_none start = record { parts = []; count = refl; each = refl; are = refl }

items_more : (start items found more : ℕ) (acts last : List Act) → AreItems start items found acts → IsPart start items more last → AreItems start (items + 1) (found + more) (acts ++ last)
items_more start items found more acts last it is = record {
  parts = it.parts ++ last ∷ [];
  count = omega (arith, length-append it.parts (last ∷ []), it.count);
  each = parts_snoc start 0 found more it.parts last it.each (subst (λ (n : ℕ). IsPart start n more last) (omega (arith, it.count)) is);
  are = ap (λ (l : List Act). l ++ last) it.are ∙ sym (flat_snoc it.parts last);
}

-- ---- counts

rises_by : (old new before after : ℕ) → before ≡ old → after ≡ new → after < 2 ^ 64 → old ≤ new → ((before ≡ 2 ^ 64 - 1) ⊎ (after ≢ before)) → min (old + 1) (2 ^ 64 - 1) ≤ new
rises_by old new before after was is low grows (inl most) = omega (arith, was, is, most, grows)
rises_by old new before after was is low grows (inr other) =
    let more : old + 1 ≤ new = omega (arith, was, is, other, grows) in
    omega (arith, more)

module _ {C D : Type 0} (makes : Steps C) (view : DiskView D) where
  -- ---- rounds

  -- the disk's count of faults never falls
  act_grows : (act : Act) (x y : C) (p q : Place D) → Happens makes view act (change_of x p y q) → view.faults p.disk ≤ view.faults q.disk
  act_grows (Made e what) x y p q happens = let same : view.faults q.disk ≡ view.faults p.disk = ap (λ (r : Place D). view.faults r.disk) happens.still in omega (arith, same)
  act_grows (Wrote turn) x y p q happens = omega (arith, happens.still)
  act_grows (Missed batch count) x y p q happens = happens.rises.0

  pub faults_grow : (acts : List Act) (x y : C) (p q : Place D) → Acts makes view acts (change_of x p y q) → view.faults p.disk ≤ view.faults q.disk
  faults_grow [] x y p q happened = let same : view.faults q.disk ≡ view.faults p.disk = ap (λ (r : Place D). view.faults r.disk) happened.place in omega (arith, same)
  faults_grow (act ∷ acts) x y p q happened =
      let one = act_grows act x happened.0 p happened.1 happened.2 in
      let more = faults_grow acts happened.0 y happened.1 q happened.3 in
      omega (arith, one, more)

  pub acted_grows : (P : List Act → Type 0) (x y : C) (p q : Place D) → Acted makes view P (change_of x p y q) → view.faults p.disk ≤ view.faults q.disk
  acted_grows P x y p q acted = faults_grow acted.acts x y p q acted.happened

  -- and rises where a flush turn fails
  act_hits : (act : Act) (x y : C) (p q : Place D) → Happens makes view act (change_of x p y q) → view.faults q.disk ≤ view.faults p.disk → view.faults p.disk < 2 ^ 64 - 1 → IsNoMiss act
  act_hits (Made e what) x y p q happens same low = tt
  act_hits (Wrote turn) x y p q happens same low = tt
  act_hits (Missed batch count) x y p q happens same low = absurd (omega (arith, happens.rises.0, happens.rises.1, same, low))

  none_missed : (acts : List Act) (x y : C) (p q : Place D) → Acts makes view acts (change_of x p y q) → view.faults q.disk ≤ view.faults p.disk → view.faults p.disk < 2 ^ 64 - 1 → NoneMissed acts
  none_missed [] x y p q happened same low = tt
  none_missed (act ∷ acts) x y p q happened same low =
      let one = act_grows act x happened.0 p happened.1 happened.2 in
      let more = faults_grow acts happened.0 y happened.1 q happened.3 in (
        act_hits act x happened.0 p happened.1 happened.2 (omega (arith, more, same)) low,
        none_missed acts happened.0 y happened.1 q happened.3 (omega (arith, one, same)) (omega (arith, one, more, same, low)),
      )

  -- a round in which the count stayed
  pub round_made : {A B : Type 0} (now : ℕ) (held held_then : List (ℕ × AskParts)) (one : A) (done : B) (x y : C) (p q : Place D) (before after : ℕ) → Acted makes view (DueTurns now held (Ok one) held_then) (change_of x p y q)
      → before ≡ view.faults p.disk → after ≡ view.faults q.disk → (after ≡ before) × (before < 2 ^ 64 - 1) → Acted makes view (MakesRound now (Ok done)) (change_of x p y q)
  round_made now held held_then one done x y p q before after acted was is same = record {
    acts = acted.acts;
    kind = record { asked = acted.kind.0; due = acted.kind.2; none = none_missed acted.acts x y p q acted.happened (omega (arith, was, is, same.0)) (omega (arith, was, same.1)) };
    happened = acted.happened;
  }

  -- the count rose where it is another, and where it is the greatest
  pub count_rose : (P : List Act → Type 0) (x y : C) (p q : Place D) (before after : ℕ) → Acted makes view P (change_of x p y q) → before ≡ view.faults p.disk → after ≡ view.faults q.disk → after < 2 ^ 64
      → ((before ≡ 2 ^ 64 - 1) ⊎ (after ≢ before)) → Rises (view.faults p.disk) (view.faults q.disk)
  count_rose P x y p q before after acted was is low why =
      let grows = acted_grows P x y p q acted in
      (grows, rises_by (view.faults p.disk) (view.faults q.disk) before after was is low grows why)

  -- any acts behind acts
  pub any_behind : (P Q : List Act → Type 0) (x y z : C) (p q r : Place D) → Acted makes view P (change_of x p y q) → Acted makes view Q (change_of y q z r) → Acted makes view (λ acts. Unit {0}) (change_of x p z r)
  any_behind P Q x y z p q r first later = acted_then makes view P Q (λ acts. Unit {0}) x y z p q r first later (λ before behind is are. tt)

  -- ---- items

  -- the round before an item, and its requests
  pub part_acted : {A : Type 0} (E : Type 0) (start i found : ℕ) (done : A) (x y z : C) (p q r : Place D) → Acted makes view (GivesBefore i (Ok done)) (change_of x p y q) → Acted makes view (GivesSteps {E = E} start i (Ok found)) (change_of y q z r)
      → Acted makes view (GivesPart start i (Ok found)) (change_of x p z r)
  part_acted E start i found done x y z p q r before steps =
      acted_then makes view (GivesBefore i (Ok done)) (GivesSteps {E = E} start i (Ok found)) (IsPart start i found) x y z p q r before steps
      (λ first later is are. record { round = first; steps = are.0; before = is; item = are.1; are = ap (λ (l : List Act). first ++ l) are.2 })

  -- one item more
  pub more_acted : (start items found more : ℕ) (x y z : C) (p q r : Place D) → Acted makes view (AreItems start items found) (change_of x p y q) → Acted makes view (GivesPart start items (Ok more)) (change_of y q z r)
      → Acted makes view (AreItems start (items + 1) (found + more)) (change_of x p z r)
  more_acted start items found more x y z p q r first part =
      acted_then makes view (AreItems start items found) (IsPart start items more) (AreItems start (items + 1) (found + more)) x y z p q r first part
      (λ before last are is. items_more start items found more before last are is)

  -- the generator broke off behind some items
  pub some_acted : (start number items found : ℕ) (Q : List Act → Type 0) (x y z : C) (p q r : Place D) → number ≤ items → Acted makes view (AreItems start number found) (change_of x p y q) → Acted makes view Q (change_of y q z r)
      → Acted makes view (AreSomeItems start items) (change_of x p z r)
  some_acted start number items found Q x y z p q r within first part =
      acted_then makes view (AreItems start number found) Q (AreSomeItems start items) x y z p q r first part
      (λ before later are is. record { number = number; found = found; first = before; more = later; within = within; given = are; are = refl })

  -- the last rounds
  pub last_acted : {A B : Type 0} (items now : ℕ) (one : A) (result : Result B Stop) (x y z : C) (p q r : Place D) → now ≡ 1000 + items + 3600000 → Acted makes view (MakesRound now (Ok one)) (change_of x p y q)
      → Acted makes view (MakesRound now result) (change_of y q z r) → Acted makes view (MakesLast items result) (change_of x p z r)
  last_acted {A} {B} items now one (Err stop) x y z p q r at first second =
      acted_then makes view (IsRound now) (MakesRound {A = B} now (Err stop)) (MakesLast {A = B} items (Err stop)) x y z p q r first second (λ before later are more. tt)
  last_acted items now one (Ok two) x y z p q r at first second =
      acted_then makes view (IsRound now) (IsRound now) (AreLast items) x y z p q r first second
      (λ before later are more. record { first = before; second = later; first_is = subst (λ (n : ℕ). IsRound n before) at are; second_is = subst (λ (n : ℕ). IsRound n later) at more; are = refl })

  pub all_acted : {A : Type 0} (start items found : ℕ) (done : A) (x y z : C) (p q r : Place D) → Acted makes view (AreItems start items found) (change_of x p y q) → Acted makes view (MakesLast items (Ok done)) (change_of y q z r)
      → Acted makes view (AreAll start items found) (change_of x p z r)
  all_acted start items found done x y z p q r first last =
      acted_then makes view (AreItems start items found) (AreLast items) (AreAll start items found) x y z p q r first last
      (λ before later are more. record { given = before; last = later; items_are = are; last_are = more; are = refl })
