-- Fronts of a list, and the files of segments.
use Rattle.std.proofs.Common.{◌≡◌, ◌⊎◌, inl, inr, ℕ, zero, suc, ◌+◌, ◌<◌, List, [], ◌∷◌, ◌++◌, length, take, drop, slice_get, Option, Some, None, refl, sym, ◌∙◌, ap, arith}
use Rattle.std.proofs.lemmas.Option.{same_Some}

-- one record more
take_got_suc : {A : Type 0} (log : List A) (k : ℕ) (r : A) → slice_get log k ≡ Some r → take (suc k) log ≡ take k log ++ r ∷ []
take_got_suc [] k r got = absurd (cc)
take_got_suc {A = A} (x ∷ log) zero r got = ap (λ (y : A). y ∷ []) (same_Some x r got)
take_got_suc {A = A} (x ∷ log) (suc k) r got = ap (λ (l : List A). x ∷ l) (take_got_suc log k r got)

pub take_got : {A : Type 0} (log : List A) (k : ℕ) (r : A) → slice_get log k ≡ Some r → take (k + 1) log ≡ take k log ++ r ∷ []
take_got {A = A} log k r got = let one : k + 1 ≡ suc k = omega arith in ap (λ (n : ℕ). take n log) one ∙ take_got_suc log k r got

-- what stands in a front stands in the list, before the front's end
pub get_take : {A : Type 0} (k j : ℕ) (log : List A) (r : A) → slice_get (take k log) j ≡ Some r → (slice_get log j ≡ Some r) × (j < k)
get_take zero j log r got = absurd (cc)
get_take (suc k) j [] r got = absurd (cc)
get_take (suc k) zero (x ∷ log) r got = (got, omega arith)
get_take (suc k) (suc j) (x ∷ log) r got = let rest = get_take k j log r got in (rest.0, omega (arith, rest.1))

-- what stands in a list stands in each front that goes past it
pub take_get : {A : Type 0} (k j : ℕ) (log : List A) (r : A) → j < k → slice_get log j ≡ Some r → slice_get (take k log) j ≡ Some r
take_get zero j log r low got = absurd (omega (arith, low))
take_get (suc k) j [] r low got = absurd (cc)
take_get (suc k) zero (x ∷ log) r low got = got
take_get (suc k) (suc j) (x ∷ log) r low got = take_get k j log r (omega (arith, low)) got

-- the first element of what is left
pub get_drop : {A : Type 0} (k : ℕ) (log : List A) (r : A) (rest : List A) → drop k log ≡ r ∷ rest → slice_get log k ≡ Some r
get_drop zero [] r rest is = absurd (cc)
get_drop {A = A} zero (x ∷ log) r rest is = ap (λ (l : List A). slice_get l 0) is
get_drop (suc k) [] r rest is = absurd (cc)
get_drop (suc k) (x ∷ log) r rest is = get_drop k log r rest is

-- and the other way round
pub drop_got : {A : Type 0} (k : ℕ) (log : List A) (r : A) → slice_get log k ≡ Some r → drop k log ≡ r ∷ drop (k + 1) log
drop_got k [] r got = absurd (cc)
drop_got {A = A} zero (x ∷ log) r got = ap (λ (y : A). y ∷ log) (same_Some x r got)
drop_got {A = A} (suc k) (x ∷ log) r got = let one : suc k + 1 ≡ suc (k + 1) = omega arith in
    drop_got k log r got ∙ ap (λ (n : ℕ). r ∷ drop n (x ∷ log)) (sym one)

pub get_within : {A : Type 0} (log : List A) (k : ℕ) → k < length log → (r : A) × (slice_get log k ≡ Some r)
get_within [] k low = absurd (omega (arith, low))
get_within (x ∷ log) zero low = (x, refl)
get_within (x ∷ log) (suc k) low = get_within log k (omega (arith, low))

pub option_cases : {A : Type 0} (o : Option A) → (o ≡ None) ⊎ ((r : A) × (o ≡ Some r))
option_cases None = inl refl
option_cases (Some r) = inr (r, refl)
