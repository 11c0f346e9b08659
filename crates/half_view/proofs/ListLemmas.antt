-- What is at a place of a list.
use Rattle.std.proofs.Common.{◌≡◌, ◌∙◌, ◌≢◌, ◌⊎◌, inl, inr, ℕ, zero, suc, ◌<◌, ◌≤◌, Bool, true, false, cond, List, [], ◌∷◌, ◌++◌, map, length, get_or, set, slice_get, Some, None, refl, sym, ap, arith}
use Rattle.std.specs.Prelude.{option_map, find}
use Rattle.half_view.specs.Halves.{change}

-- what was read
pub get_read : {A : Type 0} (xs : List A) (i : ℕ) (x : A) → i < length xs → x ≡ get_or xs i x → slice_get xs i ≡ Some x
get_read [] i x low is = absurd (omega (arith, low))
get_read {A = A} (y ∷ ys) zero x low is = ap (λ (z : A). Some z) (sym is)
get_read (y ∷ ys) (suc i) x low is = get_read ys i x (omega (arith, low)) is

pub got_or : {A : Type 0} (xs : List A) (i : ℕ) (x d : A) → slice_get xs i ≡ Some x → get_or xs i d ≡ x
got_or [] i x d at = cc at
got_or (y ∷ ys) zero x d at = cc at
got_or (y ∷ ys) (suc i) x d at = got_or ys i x d at

pub get_there : {A : Type 0} (xs : List A) (k : ℕ) → k < length xs → (x : A) × (slice_get xs k ≡ Some x)
get_there [] k within = absurd (omega (arith, within))
get_there (x ∷ xs) zero within = (x, refl)
get_there (x ∷ xs) (suc k) within = get_there xs k (omega (arith, within))

pub get_within : {A : Type 0} (xs : List A) (k : ℕ) (x : A) → slice_get xs k ≡ Some x → k < length xs
get_within [] k x at = cc at
get_within (y ∷ xs) zero x at = omega arith
get_within (y ∷ xs) (suc k) x at = let low = get_within xs k x at in omega (arith, low)

-- what is at a place of a list where one was set
pub at_set : {A : Type 0} (xs : List A) (k j : ℕ) (y x : A) → slice_get (set xs k y) j ≡ Some x → ((j ≡ k) × (x ≡ y)) ⊎ ((j ≢ k) × (slice_get xs j ≡ Some x))
at_set [] k j y x at = cc at
at_set (z ∷ xs) zero zero y x at = inl (refl, cc at)
at_set (z ∷ xs) zero (suc j) y x at = inr ((λ same. absurd (omega (arith, same))), at)
at_set (z ∷ xs) (suc k) zero y x at = inr ((λ same. absurd (omega (arith, same))), at)
at_set (z ∷ xs) (suc k) (suc j) y x at = elim (at_set xs k j y x at) [
  | inl here ↦ inl (ap suc here.0, here.1)
  | inr other ↦ inr ((λ same. other.0 (omega (arith, same))), other.1)
]

-- and of one with an item behind it
pub at_push : {A : Type 0} (xs : List A) (y x : A) (j : ℕ) → slice_get (xs ++ y ∷ []) j ≡ Some x → ((j ≡ length xs) × (x ≡ y)) ⊎ (slice_get xs j ≡ Some x)
at_push [] y x zero at = inl (refl, cc at)
at_push [] y x (suc j) at = cc at
at_push (z ∷ xs) y x zero at = inr at
at_push (z ∷ xs) y x (suc j) at = elim (at_push xs y x j at) [
  | inl here ↦ inl (ap suc here.0, here.1)
  | inr other ↦ inr other
]

-- ---- an item that is changed

pub change_read : {A : Type 0} (f : A → A) (xs : List A) (k : ℕ) (x : A) → k < length xs → x ≡ get_or xs k x → set xs k (f x) ≡ change f k xs
change_read f [] k x low is = absurd (omega (arith, low))
change_read {A = A} f (y ∷ ys) zero x low is = ap (λ (z : A). f z ∷ ys) is
change_read {A = A} f (y ∷ ys) (suc k) x low is = ap (λ (zs : List A). y ∷ zs) (change_read f ys k x (omega (arith, low)) is)

pub length-change : {A : Type 0} (f : A → A) (k : ℕ) (xs : List A) → length (change f k xs) ≡ length xs
length-change f k [] = refl
length-change f zero (x ∷ xs) = refl
length-change f (suc k) (x ∷ xs) = ap suc (length-change f k xs)

-- past the end nothing is changed
pub change_past : {A : Type 0} (f : A → A) (k : ℕ) (xs : List A) → length xs ≤ k → change f k xs ≡ xs
change_past f k [] low = refl
change_past f zero (x ∷ xs) low = absurd (omega (arith, low))
change_past {A = A} f (suc k) (x ∷ xs) low = ap (λ (zs : List A). x ∷ zs) (change_past f k xs (omega (arith, low)))

-- what is at a place of it
pub get-change : {A : Type 0} (f : A → A) (k : ℕ) (xs : List A) (j : ℕ) (b : Bool) → (b ≡ true → j ≡ k) → (b ≡ false → j ≢ k) → slice_get (change f k xs) j ≡ cond b (option_map f (slice_get xs j)) (slice_get xs j)
get-change f k [] j true same other = refl
get-change f k [] j false same other = refl
get-change f zero (x ∷ xs) zero true same other = refl
get-change f zero (x ∷ xs) zero false same other = absurd (other refl refl)
get-change f zero (x ∷ xs) (suc j) true same other = absurd (let e = same refl in omega (arith, e))
get-change f zero (x ∷ xs) (suc j) false same other = refl
get-change f (suc k) (x ∷ xs) zero true same other = absurd (let e = same refl in omega (arith, e))
get-change f (suc k) (x ∷ xs) zero false same other = refl
get-change f (suc k) (x ∷ xs) (suc j) true same other = get-change f k xs j true (λ e. let s = same e in omega (arith, s)) (λ e. cc e)
get-change f (suc k) (x ∷ xs) (suc j) false same other = get-change f k xs j false (λ e. cc e) (λ e s. other e (ap suc s))

pub get-map : {A B : Type 0} (f : A → B) (xs : List A) (i : ℕ) → slice_get (map f xs) i ≡ option_map f (slice_get xs i)
get-map f [] zero = refl
get-map f [] (suc i) = refl
get-map f (x ∷ xs) zero = refl
get-map f (x ∷ xs) (suc i) = get-map f xs i

-- lists with the same at each place are one
pub same_gets : {A : Type 0} (xs ys : List A) → ((k : ℕ) → slice_get xs k ≡ slice_get ys k) → xs ≡ ys
same_gets [] [] same = refl
same_gets [] (y ∷ ys) same = absurd (let e = same 0 in cc e)
same_gets (x ∷ xs) [] same = absurd (let e = same 0 in cc e)
same_gets {A = A} (x ∷ xs) (y ∷ ys) same =
    let first : x ≡ y = (let e = same 0 in cc e) in
    ap (λ (z : A). z ∷ xs) first ∙ ap (λ (zs : List A). y ∷ zs) (same_gets xs ys (λ k. same (suc k)))

-- ---- the first that passes

find_first : {A : Type 0} (p : A → Bool) (x y : A) (xs : List A) (b : Bool) → p y ≡ b → b ≡ false → find p xs ≡ Some x → find p (y ∷ xs) ≡ Some x
find_first {A = A} p x y xs b is not later = ap (λ (c : Bool). cond c (Some y) (find p xs)) (is ∙ not) ∙ later

pub find_here : {A : Type 0} (p : A → Bool) (xs : List A) (k : ℕ) (x : A) → slice_get xs k ≡ Some x → p x ≡ true → ((j : ℕ) (y : A) → j < k → slice_get xs j ≡ Some y → p y ≡ false) → find p xs ≡ Some x
find_here p [] k x at is before = cc at
find_here {A = A} p (y ∷ xs) zero x at is before =
    let same : y ≡ x = cc at in
    ap (λ (c : Bool). cond c (Some y) (find p xs)) (ap p same ∙ is) ∙ ap (λ (z : A). Some z) same
find_here p (y ∷ xs) (suc k) x at is before =
    find_first p x y xs false (before 0 y (omega arith) refl) refl (find_here p xs k x at is (λ j z less there. before (suc j) z (omega (arith, less)) there))

pub find_none : {A : Type 0} (p : A → Bool) (xs : List A) → ((j : ℕ) (y : A) → slice_get xs j ≡ Some y → p y ≡ false) → find p xs ≡ None
find_none p [] fails = refl
find_none p (y ∷ xs) fails = ap (λ (c : Bool). cond c (Some y) (find p xs)) (fails 0 y refl) ∙ find_none p xs (λ j z there. fails (suc j) z there)
