-- What is looked up in a table of tables, after a change of one of these.
use Rattle.std.proofs.Common.{◌≡◌, ◌∙◌, ℕ, List, Bool, true, false, cond, ◌&&◌, refl, ap, sym, String, Option, Some, Result, Ok, Err, OnOk, OnErr}
use Rattle.std.proofs.lemmas.Slice.Eq.{bytes_eq-Decides}
use Rattle.std.specs.Str.{bytes_eq}
use Rattle.std.specs.Option.{option_and, option_and_then}
use Rattle.std.specs.HashMap.{HashMap, get_by_text}
use Rattle.std.specs.Map.{update}

-- what holds anyway holds of a fault
pub on_err : {A E : Type 0} {P : Type 0} (result : Result A E) → P → OnErr result P
on_err (Ok value) holds = tt
on_err (Err fault) holds = holds

-- a choice behind a choice
pub both : {X : Type 0} (a b : Bool) (x y : X) → cond a (cond b x y) y ≡ cond (a && b) x y
both true b x y = refl
both false b x y = refl

module _ {A S W K Y : Type 0} (see : W → K → Option Y) (old new : HashMap (String A) W S) (name : List ℕ) (was : Option W) (now : W) (change : K → Option Y → Option Y)
    (updates : (other : List ℕ) → get_by_text new other ≡ update bytes_eq (get_by_text old) name (Some now) other) (was_is : get_by_text old name ≡ was)
    (changed : (k : K) → see now k ≡ change k (option_and_then (λ w. see w k) was)) where
  by_name : (other : List ℕ) (k : K) (b : Bool) → (b ≡ true → name ≡ other) → (found : Option W) → found ≡ cond b (Some now) (get_by_text old other)
      → option_and_then (λ w. see w k) found ≡ cond b (change k (option_and_then (λ w. see w k) (get_by_text old other))) (option_and_then (λ w. see w k) (get_by_text old other))
  by_name other k true same found is =
      ap (option_and_then (λ w. see w k)) is ∙ changed k
      ∙ ap (λ (o : Option W). change k (option_and_then (λ w. see w k) o)) (sym was_is ∙ ap (get_by_text old) (same refl))
  by_name other k false same found is = ap (option_and_then (λ w. see w k)) is

  -- what is seen at each name and place: only at this name is it changed
  pub after_change : (other : List ℕ) (k : K)
      → option_and_then (λ w. see w k) (get_by_text new other)
      ≡ cond (bytes_eq name other) (change k (option_and_then (λ w. see w k) (get_by_text old other))) (option_and_then (λ w. see w k) (get_by_text old other))
  after_change other k = by_name other k (bytes_eq name other) (λ yes. (bytes_eq-Decides name other).0 yes) (get_by_text new other) (updates other)

-- where nothing is changed at the name either, all is as before
pub after_none : {A S W K Y : Type 0} (see : W → K → Option Y) (old new : HashMap (String A) W S) (name : List ℕ) (was : Option W) (now : W)
    → ((other : List ℕ) → get_by_text new other ≡ update bytes_eq (get_by_text old) name (Some now) other) → get_by_text old name ≡ was
    → ((k : K) → see now k ≡ option_and_then (λ w. see w k) was)
    → (other : List ℕ) (k : K) → option_and_then (λ w. see w k) (get_by_text new other) ≡ option_and_then (λ w. see w k) (get_by_text old other)
after_none see old new name was now updates was_is same other k =
    after_change see old new name was now (λ k o. o) updates was_is same other k ∙ one (bytes_eq name other) (option_and_then (λ w. see w k) (get_by_text old other))
  where
    one : {X : Type 0} (b : Bool) (x : X) → cond b x x ≡ x
    one true x = refl
    one false x = refl

-- where a value is set at the name and some place
pub after_set : {A S W K Y : Type 0} (see : W → K → Option Y) (old new : HashMap (String A) W S) (name : List ℕ) (was : Option W) (now : W) (hit : K → Bool) (value : Option Y)
    → ((other : List ℕ) → get_by_text new other ≡ update bytes_eq (get_by_text old) name (Some now) other) → get_by_text old name ≡ was
    → ((k : K) → see now k ≡ cond (hit k) value (option_and_then (λ w. see w k) was))
    → (other : List ℕ) (k : K) → option_and_then (λ w. see w k) (get_by_text new other) ≡ cond (bytes_eq name other && hit k) value (option_and_then (λ w. see w k) (get_by_text old other))
after_set see old new name was now hit value updates was_is set other k =
    after_change see old new name was now (λ k o. cond (hit k) value o) updates was_is set other k
    ∙ both (bytes_eq name other) (hit k) value (option_and_then (λ w. see w k) (get_by_text old other))

-- what follows from what holds at Ok holds at Ok
pub on_ok : {A E : Type 0} {P Q : Type 0} (result : Result A E) → (P → Q) → OnOk result P → OnOk result Q
on_ok (Ok value) then holds = then holds
on_ok (Err fault) then holds = tt

-- where what is there at the name and some place becomes another value, or none
pub after_and : {A S W K Y : Type 0} (see : W → K → Option Y) (old new : HashMap (String A) W S) (name : List ℕ) (was : Option W) (now : W) (hit : K → Bool) (value : Option Y)
    → ((other : List ℕ) → get_by_text new other ≡ update bytes_eq (get_by_text old) name (Some now) other) → get_by_text old name ≡ was
    → ((k : K) → see now k ≡ cond (hit k) (option_and (option_and_then (λ w. see w k) was) value) (option_and_then (λ w. see w k) was))
    → (other : List ℕ) (k : K) → option_and_then (λ w. see w k) (get_by_text new other)
    ≡ cond (bytes_eq name other && hit k) (option_and (option_and_then (λ w. see w k) (get_by_text old other)) value) (option_and_then (λ w. see w k) (get_by_text old other))
after_and see old new name was now hit value updates was_is set other k =
    let seen = option_and_then (λ w. see w k) (get_by_text old other) in
    after_change see old new name was now (λ k o. cond (hit k) (option_and o value) o) updates was_is set other k
    ∙ both (bytes_eq name other) (hit k) (option_and seen value) seen
