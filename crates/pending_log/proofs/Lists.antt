-- Lists: a front that is one longer, and what is left behind a front.
use Rattle.std.proofs.Common.{◌≡◌, refl, ap, sym, ◌∙◌, subst, arith, ℕ, zero, suc, ◌+◌, ◌<◌, List, [], ◌∷◌, ◌++◌, length, take, drop, slice_get, Some}

-- two that one place has are one
pub some_one : {A : Type 0} {x y : A} → Some x ≡ Some y → x ≡ y
some_one e = cc e

-- the front that goes past one item more
pub take_next : {A : Type 0} (xs : List A) (n : ℕ) (x : A) → slice_get xs n ≡ Some x → take (suc n) xs ≡ take n xs ++ x ∷ []
take_next [] n x e = cc e
take_next (y ∷ xs) zero x e = ap (λ z. z ∷ []) (cc e)
take_next (y ∷ xs) (suc n) x e = ap (λ (zs : List _). y ∷ zs) (take_next xs n x e)

-- what is in a list is within it
pub get_within : {A : Type 0} (xs : List A) (n : ℕ) (x : A) → slice_get xs n ≡ Some x → n < length xs
get_within [] n x e = cc e
get_within (y ∷ xs) zero x e = omega arith
get_within (y ∷ xs) (suc n) x e = let h = get_within xs n x e in omega (arith, h)

-- there is something within a list
pub get_there : {A : Type 0} (xs : List A) (n : ℕ) → n < length xs → (x : A) × (slice_get xs n ≡ Some x)
get_there [] n h = absurd (let none : ⊥ = omega (arith, h) in none)
get_there (x ∷ xs) zero h = (x, refl)
get_there (x ∷ xs) (suc n) h = get_there xs n (omega (arith, h))

-- an item behind a front
pub drop_get : {A : Type 0} (xs : List A) (f j : ℕ) (x : A) → slice_get xs (f + j) ≡ Some x → slice_get (drop f xs) j ≡ Some x
drop_get xs zero j x e = subst (λ k. slice_get xs k ≡ Some x) (let z : 0 + j ≡ j = omega arith in z) e
drop_get [] (suc f) j x e = cc e
drop_get (y ∷ xs) (suc f) j x e = drop_get xs f j x (subst (λ k. slice_get (y ∷ xs) k ≡ Some x) (let z : suc f + j ≡ suc (f + j) = omega arith in z) e)

-- and the other way round
pub get_drop : {A : Type 0} (xs : List A) (f j : ℕ) (x : A) → slice_get (drop f xs) j ≡ Some x → slice_get xs (f + j) ≡ Some x
get_drop xs zero j x e = subst (λ k. slice_get xs k ≡ Some x) (let z : j ≡ 0 + j = omega arith in z) e
get_drop [] (suc f) j x e = cc e
get_drop (y ∷ xs) (suc f) j x e = subst (λ k. slice_get (y ∷ xs) k ≡ Some x) (let z : suc (f + j) ≡ suc f + j = omega arith in z) (get_drop xs f j x e)

drop_none : {A : Type 0} (n : ℕ) → drop n [] ≡ let none : List A = [] in none
drop_none zero = refl
drop_none (suc n) = refl

-- behind a front, and behind another one
pub drop_more : {A : Type 0} (xs : List A) (m n : ℕ) → drop n (drop m xs) ≡ drop (m + n) xs
drop_more xs zero n = ap (λ k. drop k xs) (let e : n ≡ 0 + n = omega arith in e)
drop_more [] (suc m) n = drop_none n ∙ sym (drop_none (suc m + n))
drop_more (x ∷ xs) (suc m) n = drop_more xs m n ∙ ap (λ k. drop k (x ∷ xs)) (let e : suc (m + n) ≡ suc m + n = omega arith in e)

-- what is in a list with more behind it
pub get_more : {A : Type 0} (xs ys : List A) (k : ℕ) → k < length xs → slice_get (xs ++ ys) k ≡ slice_get xs k
get_more [] ys k h = absurd (let none : ⊥ = omega (arith, h) in none)
get_more (z ∷ xs) ys zero h = refl
get_more (z ∷ xs) ys (suc k) h = get_more xs ys k (omega (arith, h))
