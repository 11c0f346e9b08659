-- Parts of lists, by index.
use Rattle.std.proofs.Common.{◌≡◌, ◌⊎◌, inl, inr, ℕ, zero, suc, ◌+◌, ◌-◌, ◌<◌, ◌≤◌, List, [], ◌∷◌, ◌++◌, length, take, drop, slice_get, Some, refl, sym, ◌∙◌, ap, subst, arith, length-append}

pub get_left : {A : Type 0} (xs ys : List A) (k : ℕ) (x : A) → slice_get xs k ≡ Some x → slice_get (xs ++ ys) k ≡ Some x
get_left [] ys k x got = absurd (cc)
get_left (y ∷ xs) ys zero x got = got
get_left (y ∷ xs) ys (suc k) x got = get_left xs ys k x got

pub get_append : {A : Type 0} (xs ys : List A) (k : ℕ) (x : A) → slice_get (xs ++ ys) k ≡ Some x
    → (slice_get xs k ≡ Some x) ⊎ ((j : ℕ) × (k ≡ length xs + j) × (slice_get ys j ≡ Some x))
get_append [] ys k x got = inr (k, omega arith, got)
get_append (y ∷ xs) ys zero x got = inl got
get_append (y ∷ xs) ys (suc k) x got = elim (get_append xs ys k x got) [ inl h ↦ inl h | inr h ↦ inr (h.0, omega (arith, h.1), h.2) ]

pub get_take : {A : Type 0} (k j : ℕ) (log : List A) (r : A) → slice_get (take k log) j ≡ Some r → (slice_get log j ≡ Some r) × (j < k)
get_take zero j log r got = absurd (cc)
get_take (suc k) j [] r got = absurd (cc)
get_take (suc k) zero (x ∷ log) r got = (got, omega arith)
get_take (suc k) (suc j) (x ∷ log) r got = let rest = get_take k j log r got in (rest.0, omega (arith, rest.1))

pub take_get : {A : Type 0} (k j : ℕ) (log : List A) (r : A) → j < k → slice_get log j ≡ Some r → slice_get (take k log) j ≡ Some r
take_get zero j log r low got = absurd (omega (arith, low))
take_get (suc k) j [] r low got = absurd (cc)
take_get (suc k) zero (x ∷ log) r low got = got
take_get (suc k) (suc j) (x ∷ log) r low got = take_get k j log r (omega (arith, low)) got

pub get_drop : {A : Type 0} (m k : ℕ) (log : List A) (r : A) → m ≤ k → slice_get log k ≡ Some r → slice_get (drop m log) (k - m) ≡ Some r
get_drop {A = A} zero k log r low got = let same : k - 0 ≡ k = omega arith in subst (λ (n : ℕ). slice_get log n ≡ Some r) (sym same) got
get_drop (suc m) k [] r low got = absurd (cc)
get_drop (suc m) zero (x ∷ log) r low got = absurd (omega (arith, low))
get_drop {A = A} (suc m) (suc k) (x ∷ log) r low got = let same : suc k - suc m ≡ k - m = omega arith in
    subst (λ (n : ℕ). slice_get (drop m log) n ≡ Some r) (sym same) (get_drop m k log r (omega (arith, low)) got)

-- and back
pub drop_get : {A : Type 0} (m j : ℕ) (log : List A) (r : A) → slice_get (drop m log) j ≡ Some r → slice_get log (m + j) ≡ Some r
drop_get {A = A} zero j log r got = let same : 0 + j ≡ j = omega arith in subst (λ (n : ℕ). slice_get log n ≡ Some r) (sym same) got
drop_get (suc m) j [] r got = absurd (cc)
drop_get {A = A} (suc m) j (x ∷ log) r got = let same : suc m + j ≡ suc (m + j) = omega arith in
    subst (λ (n : ℕ). slice_get (x ∷ log) n ≡ Some r) (sym same) (drop_get m j log r got)

-- a front of a longer list that ends within the first
pub take_left : {A : Type 0} (k : ℕ) (xs ys : List A) → k ≤ length xs → take k (xs ++ ys) ≡ take k xs
take_left zero xs ys low = refl
take_left (suc k) [] ys low = absurd (omega (arith, low))
take_left {A = A} (suc k) (x ∷ xs) ys low = ap (λ (l : List A). x ∷ l) (take_left k xs ys (omega (arith, low)))

pub take_take_less : {A : Type 0} (j k : ℕ) (xs : List A) → j ≤ k → take j (take k xs) ≡ take j xs
take_take_less zero k xs low = refl
take_take_less (suc j) zero xs low = absurd (omega (arith, low))
take_take_less (suc j) (suc k) [] low = refl
take_take_less {A = A} (suc j) (suc k) (x ∷ xs) low = ap (λ (l : List A). x ∷ l) (take_take_less j k xs (omega (arith, low)))

-- what stands right behind a list
pub get_seam : {A : Type 0} (xs : List A) (x : A) (more : List A) → slice_get (xs ++ x ∷ more) (length xs) ≡ Some x
get_seam [] x more = refl
get_seam (y ∷ xs) x more = get_seam xs x more

pub within : {A : Type 0} (xs : List A) (k : ℕ) (x : A) → slice_get xs k ≡ Some x → k < length xs
within [] k x got = absurd (cc)
within (y ∷ xs) zero x got = omega arith
within (y ∷ xs) (suc k) x got = omega (arith, within xs k x got)

pub length_take : {A : Type 0} (k : ℕ) (xs : List A) → k ≤ length xs → length (take k xs) ≡ k
length_take zero xs low = refl
length_take (suc k) [] low = absurd (omega (arith, low))
length_take (suc k) (x ∷ xs) low = omega (arith, length_take k xs (omega (arith, low)))

pub length_left : {A : Type 0} (xs ys : List A) → length xs ≤ length (xs ++ ys)
length_left xs ys = omega (arith, length-append xs ys)

pub drop_left : {A : Type 0} (k : ℕ) (xs ys : List A) → k ≤ length xs → drop k (xs ++ ys) ≡ drop k xs ++ ys
drop_left zero xs ys low = refl
drop_left (suc k) [] ys low = absurd (omega (arith, low))
drop_left (suc k) (x ∷ xs) ys low = drop_left k xs ys (omega (arith, low))

pub drop_drop_less : {A : Type 0} (i j : ℕ) (xs : List A) → i ≤ j → drop j xs ≡ drop (j - i) (drop i xs)
drop_drop_less {A = A} zero j xs low = let same : j - 0 ≡ j = omega arith in ap (λ (n : ℕ). drop n xs) (sym same)
drop_drop_less (suc i) zero xs low = absurd (omega (arith, low))
drop_drop_less {A = A} (suc i) (suc j) [] low = drop_nil (suc j - suc i)
  where
    drop_nil : (n : ℕ) → [] ≡ drop {A = A} n []
    drop_nil zero = refl
    drop_nil (suc n) = refl
drop_drop_less {A = A} (suc i) (suc j) (x ∷ xs) low = let same : suc j - suc i ≡ j - i = omega arith in
    drop_drop_less i j xs (omega (arith, low)) ∙ ap (λ (n : ℕ). drop n (drop i xs)) (sym same)

pub drop_take : {A : Type 0} (i j : ℕ) (xs : List A) → drop i (take j xs) ≡ take (j - i) (drop i xs)
drop_take {A = A} zero j xs = let same : j - 0 ≡ j = omega arith in ap (λ (n : ℕ). take n xs) (sym same)
drop_take {A = A} (suc i) zero xs = let same : 0 - suc i ≡ 0 = omega arith in ap (λ (n : ℕ). take n (drop (suc i) xs)) (sym same)
drop_take {A = A} (suc i) (suc j) [] = take_nil (suc j - suc i)
  where
    take_nil : (n : ℕ) → [] ≡ take {A = A} n []
    take_nil zero = refl
    take_nil (suc n) = refl
drop_take {A = A} (suc i) (suc j) (x ∷ xs) = let same : suc j - suc i ≡ j - i = omega arith in
    drop_take i j xs ∙ ap (λ (n : ℕ). take n (drop i xs)) (sym same)

-- behind other ones
pub get_behind : {A : Type 0} (xs ys : List A) (k : ℕ) (x : A) → slice_get ys k ≡ Some x → (j : ℕ) × (slice_get (xs ++ ys) j ≡ Some x)
get_behind [] ys k x got = (k, got)
get_behind (y ∷ xs) ys k x got = let there = get_behind xs ys k x got in (suc there.0, there.1)
