-- Lists by their places: a front that is one longer, and what is at a place of a part.
use Rattle.std.proofs.Common.{◌≡◌, refl, ap, ◌∙◌, arith, ℕ, zero, suc, ◌+◌, ◌-◌, ◌<◌, ◌≤◌, List, [], ◌∷◌, ◌++◌, length, take, drop, map, slice_get, Some}

-- the front that goes past one item more
pub take_next : {A : Type 0} (xs : List A) (n : ℕ) (x : A) → slice_get xs n ≡ Some x → take (suc n) xs ≡ take n xs ++ x ∷ []
take_next [] n x e = cc e
take_next (y ∷ xs) zero x e = ap (λ z. z ∷ []) (cc e)
take_next (y ∷ xs) (suc n) x e = ap (λ (zs : List _). y ∷ zs) (take_next xs n x e)

-- what is at a place of a list is within it
pub get_within : {A : Type 0} (xs : List A) (n : ℕ) (x : A) → slice_get xs n ≡ Some x → n < length xs
get_within [] n x e = cc e
get_within (y ∷ xs) zero x e = omega arith
get_within (y ∷ xs) (suc n) x e = let h = get_within xs n x e in omega (arith, h)

-- two that one place has are one
pub some_one : {A : Type 0} {x y : A} → Some x ≡ Some y → x ≡ y
some_one e = cc e

-- what is at a place, and what is behind it
pub drop_next : {A : Type 0} (xs : List A) (n : ℕ) (x : A) → slice_get xs n ≡ Some x → drop n xs ≡ x ∷ drop (suc n) xs
drop_next [] n x e = cc e
drop_next (y ∷ xs) zero x e = ap (λ z. z ∷ xs) (some_one e)
drop_next (y ∷ xs) (suc n) x e = drop_next xs n x e

-- an item of a list without the first ones
pub drop_get : {A : Type 0} (xs : List A) (n i : ℕ) → slice_get (drop n xs) i ≡ slice_get xs (n + i)
drop_get xs zero i = ap (slice_get xs) (let e : i ≡ 0 + i = omega arith in e)
drop_get [] (suc n) i = refl
drop_get (x ∷ xs) (suc n) i = drop_get xs n i ∙ ap (slice_get (x ∷ xs)) (let e : suc (n + i) ≡ suc n + i = omega arith in e)

-- an item of the first ones
pub take_get : {A : Type 0} (xs : List A) (n i : ℕ) (x : A) → i < n → slice_get xs i ≡ Some x → slice_get (take n xs) i ≡ Some x
take_get xs zero i x low at = absurd (let none : ⊥ = omega (arith, low) in none)
take_get [] (suc n) i x low at = cc at
take_get (y ∷ xs) (suc n) zero x low at = at
take_get (y ∷ xs) (suc n) (suc i) x low at = take_get xs n i x (omega (arith, low)) at

-- an item of a list that was mapped
pub map_get : {A B : Type 0} (f : A → B) (xs : List A) (i : ℕ) (x : A) → slice_get xs i ≡ Some x → slice_get (map f xs) i ≡ Some (f x)
map_get f [] i x at = cc at
map_get f (y ∷ xs) zero x at = ap (λ z. Some (f z)) (some_one at)
map_get f (y ∷ xs) (suc i) x at = map_get f xs i x at

-- an item of what is examined: of the first `seen` items from `from` on
pub examined_at : {A B : Type 0} (f : A → B) (xs : List A) (from seen i : ℕ) (x : A) → from ≤ i → i < seen → slice_get xs i ≡ Some x
    → slice_get (drop from (map f (take seen xs))) (i - from) ≡ Some (f x)
examined_at f xs from seen i x low high at =
    drop_get (map f (take seen xs)) from (i - from)
    ∙ ap (slice_get (map f (take seen xs))) (let e : from + (i - from) ≡ i = omega (arith, low) in e)
    ∙ map_get f (take seen xs) i x (take_get xs seen i x high at)
