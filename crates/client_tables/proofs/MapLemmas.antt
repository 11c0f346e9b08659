-- What is looked up in a map with names for keys, after a change.
use Rattle.std.proofs.Common.{◌≡◌, ◌∙◌, ℕ, List, [], ◌∷◌, Bool, true, false, cond, ◌&&◌, not, filter, refl, ap, sym, subst, String, Option, Some, None, Result, Ok, Err, OnOk, OnErr}
use Rattle.std.proofs.lemmas.Slice.Eq.{bytes_eq-Decides}
use Rattle.std.specs.Str.{bytes_eq}
use Rattle.std.specs.BTreeMap.{BTreeMap, get_by_text}
use Rattle.std.specs.Map.{update, lookup}
use Rattle.std.specs.Map.Calls.{RetainsPairs}

-- what holds anyway holds of a fault
pub on_err : {A E : Type 0} {P : Type 0} (result : Result A E) → P → OnErr result P
on_err (Ok value) holds = tt
on_err (Err fault) holds = holds

-- what holds anyway holds at Ok
pub on_ok : {A E : Type 0} {P : Type 0} (result : Result A E) → P → OnOk result P
on_ok (Ok value) holds = holds
on_ok (Err fault) holds = tt

-- a choice behind a choice
pub both : {X : Type 0} (a b : Bool) (x y : X) → cond a (cond b x y) y ≡ cond (a && b) x y
both true b x y = refl
both false b x y = refl

filter_all : {A : Type 0} (xs : List A) → filter (λ x. true) xs ≡ xs
filter_all [] = refl
filter_all {A = A} (x ∷ xs) = ap (λ (l : List A). x ∷ l) (filter_all xs)

-- what is left, where some may be gone
pub gone_if : {X : Type 0} (b : Bool) (test : X → Bool) (xs : List X) → cond b (filter (λ x. not (test x)) xs) xs ≡ filter (λ x. not (b && test x)) xs
gone_if true test xs = refl
gone_if false test xs = sym (filter_all xs)

module _ {A W V : Type 0} (see : Option W → V) (old new : BTreeMap (String A) W) (name : List ℕ) (now : W) (change : V → V)
    (updates : (other : List ℕ) → get_by_text new other ≡ update bytes_eq (get_by_text old) name (Some now) other)
    (changed : see (Some now) ≡ change (see (get_by_text old name))) where
  by_name : (other : List ℕ) (b : Bool) → (b ≡ true → name ≡ other) → get_by_text new other ≡ cond b (Some now) (get_by_text old other)
      → see (get_by_text new other) ≡ cond b (change (see (get_by_text old other))) (see (get_by_text old other))
  by_name other true same is = ap see is ∙ changed ∙ ap (λ (n : List ℕ). change (see (get_by_text old n))) (same refl)
  by_name other false same is = ap see is

  -- what is seen at each name: only at this one is it changed
  pub after_change : (other : List ℕ) → see (get_by_text new other) ≡ cond (bytes_eq name other) (change (see (get_by_text old other))) (see (get_by_text old other))
  after_change other = by_name other (bytes_eq name other) (λ yes. (bytes_eq-Decides name other).0 yes) (updates other)

-- a choice between equals
pub either_way : {X : Type 0} (b : Bool) (x : X) → cond b x x ≡ x
either_way true x = refl
either_way false x = refl

-- where nothing is changed at the name either, all is as before
pub after_none : {A W V : Type 0} (see : Option W → V) (old new : BTreeMap (String A) W) (name : List ℕ) (now : W)
    → ((other : List ℕ) → get_by_text new other ≡ update bytes_eq (get_by_text old) name (Some now) other)
    → see (Some now) ≡ see (get_by_text old name)
    → (other : List ℕ) → see (get_by_text new other) ≡ see (get_by_text old other)
after_none see old new name now updates same other =
    after_change see old new name now (λ v. v) updates same other ∙ either_way (bytes_eq name other) (see (get_by_text old other))

-- what is seen at each key, once each value was changed
pub retained : {F K W V : Type 0} (see : Option W → V) (change : V → V) (T : F → K → W → Bool → W → F → Type 0) (f : F)
    → see None ≡ change (see None)
    → ((k : K) (v : W) (b : Bool) (w : W) (f' : F) → T f k v b w f' → (b ≡ true) × (see (Some w) ≡ change (see (Some v))) × (f' ≡ f))
    → (es kept : List (K × W)) → RetainsPairs T f es kept → (test : K → Bool) → see (lookup test kept) ≡ change (see (lookup test es))
retained see change T f none each [] kept is test = ap (λ l. see (lookup test l)) is ∙ none
retained {F = F} {K = K} {W = W} see change T f none each (e ∷ es) kept got test =
    let one = each e.0 e.1 got.0 got.1 got.2 got.4 in
    let again = retained see change T f none each es got.3 (subst (λ (g : F). RetainsPairs T g es got.3) one.2 got.5) test in
    ap (λ (l : List (K × W)). see (lookup test l)) (got.6 ∙ ap (λ (b : Bool). cond b ((e.0, got.1) ∷ got.3) got.3) one.0)
    ∙ by (test e.0) one.1 again
  where
    by : {X : Option W} {Y : Option W} {v w : W} (b : Bool) → see (Some w) ≡ change (see (Some v)) → see X ≡ change (see Y)
        → see (cond b (Some w) X) ≡ change (see (cond b (Some v) Y))
    by true first rest = first
    by false first rest = rest

-- where nothing is at a name, nothing of it is gone
pub none_gone : {A W X : Type 0} (see : Option W → List X) (map : BTreeMap (String A) W) (name : List ℕ) (test : X → Bool)
    → see None ≡ [] → get_by_text map name ≡ None → (other : List ℕ)
    → see (get_by_text map other) ≡ filter (λ x. not (bytes_eq name other && test x)) (see (get_by_text map other))
none_gone {X = X} see map name test empty none other = by (bytes_eq name other) (λ yes. (bytes_eq-Decides name other).0 yes)
  where
    by : (b : Bool) → (b ≡ true → name ≡ other) → see (get_by_text map other) ≡ filter (λ x. not (b && test x)) (see (get_by_text map other))
    by false same = sym (filter_all (see (get_by_text map other)))
    by true same =
        let nothing : see (get_by_text map other) ≡ [] = ap see (ap (get_by_text map) (sym (same refl)) ∙ none) ∙ empty in
        nothing ∙ ap (λ (l : List X). filter (λ x. not (test x)) l) (sym nothing)
