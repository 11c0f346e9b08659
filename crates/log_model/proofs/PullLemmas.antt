-- A pull of units is the pull of their records.
use Rattle.std.proofs.Common.{◌≡◌, refl, ap, sym, ◌∙◌, ℕ, ◌+◌, ◌-◌, ◌==◌, ◌&&◌, ◌||◌, not, nat_lt, nat_le, Bool, true, false, cond, List, [], ◌∷◌, ◌++◌, length, map, drop, filter, count_by, sum_by, ℤ, pos, negsuc, if◌then◌else◌}
use Rattle.std.specs.List.{drop-map}
use Rattle.std.proofs.lemmas.List.{map-append, length-map}
use Rattle.std.proofs.lemmas.List.Sums.{sum_by-cons, length-filter}
use Rattle.record_codec.specs.declared.unit.Unit.{Unit as QueueUnit}
use Rattle.log_model.specs.Pulls.{Pulled, pulled_as, goes_on, examined, nothing, after_looking, pulled}

-- a unit is its own unit
abbrev this : QueueUnit → QueueUnit
this unit = unit

-- the units that pass are those of what passes
filter_as : {A : Type 0} (f : A → QueueUnit) (test : QueueUnit → Bool) (xs : List A) → filter test (map f xs) ≡ map f (filter (λ y. test (f y)) xs)
filter_as f test [] = refl
filter_as f test (x ∷ xs) = elim (test (f x)) as (λ b. cond b (f x ∷ filter test (map f xs)) (filter test (map f xs)) ≡ map f (cond b (x ∷ filter (λ y. test (f y)) xs) (filter (λ y. test (f y)) xs))) [
  | true ↦ ap (λ (us : List QueueUnit). f x ∷ us) (filter_as f test xs)
  | false ↦ filter_as f test xs
]

-- as many units pass
count_map : {A : Type 0} (f : A → QueueUnit) (test : QueueUnit → Bool) (xs : List A) → count_by test (map f xs) ≡ count_by (λ y. test (f y)) xs
count_map f test xs =
    sym (length-filter test (map f xs)) ∙ (ap (λ (us : List QueueUnit). length us) (filter_as f test xs) ∙ (length-map (filter (λ y. test (f y)) xs) f ∙ length-filter (λ y. test (f y)) xs))

-- they have as many bytes
sum_map : {A : Type 0} (f : A → QueueUnit) (xs : List A) → sum_by (λ u. u.size) (map f xs) ≡ sum_by (λ y. (f y).size) xs
sum_map f [] = refl
sum_map f (x ∷ xs) = sum_by-cons (λ u. u.size) (f x) (map f xs) ∙ (ap (λ m. (f x).size + m) (sum_map f xs) ∙ sym (sum_by-cons (λ y. (f y).size) x xs))

-- examining goes on alike
goes_on_map : {A : Type 0} (f : A → QueueUnit) (most : ℕ) (test : QueueUnit → Bool) (seen : List A) (x : A) → goes_on this most test (map f seen) (f x) ≡ goes_on f most test seen x
goes_on_map f most test seen x =
    let size = ap (λ (us : List QueueUnit). sum_by (λ u. u.size) us) (filter_as f test seen) ∙ sum_map f (filter (λ y. test (f y)) seen) in
    ap (λ n. nat_lt n most && nat_lt (length (map f seen)) 800 && (not (test (f x)) || (n == 0) || nat_le (sum_by (λ u. u.size) (filter test (map f seen)) + (f x).size) 262144)) (count_map f test seen)
    ∙ (ap (λ n. nat_lt (count_by (λ y. test (f y)) seen) most && nat_lt n 800 && (not (test (f x)) || (count_by (λ y. test (f y)) seen == 0) || nat_le (sum_by (λ u. u.size) (filter test (map f seen)) + (f x).size) 262144)) (length-map seen f)
    ∙ ap (λ n. nat_lt (count_by (λ y. test (f y)) seen) most && nat_lt (length seen) 800 && (not (test (f x)) || (count_by (λ y. test (f y)) seen == 0) || nat_le (n + (f x).size) 262144)) size)

-- the units of what is examined are examined
examined_map : {A : Type 0} (f : A → QueueUnit) (most : ℕ) (test : QueueUnit → Bool) (seen xs : List A) → examined this most test (map f seen) (map f xs) ≡ map f (examined f most test seen xs)
examined_map f most test seen [] = refl
examined_map f most test seen (x ∷ xs) =
    ap (λ b. if b then examined this most test (map f seen ++ f x ∷ []) (map f xs) else map f seen) (goes_on_map f most test seen x)
    ∙ elim (goes_on f most test seen x) as (λ b. (if b then examined this most test (map f seen ++ f x ∷ []) (map f xs) else map f seen) ≡ map f (if b then examined f most test (seen ++ x ∷ []) xs else seen)) [
      | true ↦ ap (λ (us : List QueueUnit). examined this most test us (map f xs)) (sym (map-append f seen (x ∷ []))) ∙ examined_map f most test (seen ++ x ∷ []) xs
      | false ↦ refl
    ]

-- the rows of the table of pulls
chosen : {B : Type 0} → ℕ → ℕ → ℕ → Pulled B → Pulled B
chosen low high from looked =
    if (high == 0) && (from == 0) then nothing 19 0 low high
    else (if nat_lt from low then nothing 21 low low high
    else (if from == high then nothing 19 high low high
    else (if nat_lt high from then nothing 21 high low high else looked)))

-- each row of the table says the same of both
chosen_as : {A B : Type 0} (f : A → B) (low high from : ℕ) (looked : Pulled A) → chosen low high from (pulled_as f looked) ≡ pulled_as f (chosen low high from looked)
unfolding chosen
chosen_as f low high from looked =
    elim ((high == 0) && (from == 0)) as (λ a.
    (if a then nothing 19 0 low high else (if nat_lt from low then nothing 21 low low high else (if from == high then nothing 19 high low high else (if nat_lt high from then nothing 21 high low high else pulled_as f looked))))
    ≡ pulled_as f (if a then nothing 19 0 low high else (if nat_lt from low then nothing 21 low low high else (if from == high then nothing 19 high low high else (if nat_lt high from then nothing 21 high low high else looked))))) [
      | true ↦ refl
      | false ↦ elim (nat_lt from low) as (λ a.
          (if a then nothing 21 low low high else (if from == high then nothing 19 high low high else (if nat_lt high from then nothing 21 high low high else pulled_as f looked)))
          ≡ pulled_as f (if a then nothing 21 low low high else (if from == high then nothing 19 high low high else (if nat_lt high from then nothing 21 high low high else looked)))) [
            | true ↦ refl
            | false ↦ elim (from == high) as (λ a.
                (if a then nothing 19 high low high else (if nat_lt high from then nothing 21 high low high else pulled_as f looked)) ≡ pulled_as f (if a then nothing 19 high low high else (if nat_lt high from then nothing 21 high low high else looked))) [
                  | true ↦ refl
                  | false ↦ elim (nat_lt high from) as (λ a. (if a then nothing 21 high low high else pulled_as f looked) ≡ pulled_as f (if a then nothing 21 high low high else looked)) [ true ↦ refl | false ↦ refl ]
                ]
          ]
    ]

-- what is found of units is that of what they are units of
looking_as : {A : Type 0} (f : A → QueueUnit) (from low high : ℕ) (test : QueueUnit → Bool) (seen : List A) → after_looking this from low high test (map f seen) ≡ pulled_as f (after_looking f from low high test seen)
looking_as f from low high test seen =
    ap (λ n. record { code = if n == 0 then 20 else 0; next = from + length (map f seen); low = low; high = high; taken = filter test (map f seen) }) (count_map f test seen)
    ∙ (ap (λ n. record { code = if count_by (λ y. test (f y)) seen == 0 then 20 else 0; next = from + n; low = low; high = high; taken = filter test (map f seen) }) (length-map seen f)
    ∙ ap (λ (us : List QueueUnit). record { code = if count_by (λ y. test (f y)) seen == 0 then 20 else 0; next = from + length seen; low = low; high = high; taken = us }) (filter_as f test seen))

-- a pull of units is the pull of what they are units of
pub pulled_map : {A : Type 0} (f : A → QueueUnit) (low : ℕ) (queue : List A) (from : ℤ) (most : ℕ) (test : QueueUnit → Bool) → pulled this low (map f queue) from most test ≡ pulled_as f (pulled f low queue from most test)
unfolding chosen
pulled_map f low queue (negsuc from) most test = ap (λ n. nothing 21 low low (low + n)) (length-map queue f)
pulled_map f low queue (pos from) most test =
    let rest : examined this most test [] (drop (from - low) (map f queue)) ≡ map f (examined f most test [] (drop (from - low) queue)) =
    ap (λ (us : List QueueUnit). examined this most test [] us) (drop-map f (from - low) queue) ∙ examined_map f most test [] (drop (from - low) queue) in
    ap (λ n. chosen low (low + n) from (after_looking this from low (low + n) test (examined this most test [] (drop (from - low) (map f queue))))) (length-map queue f)
    ∙ (ap (λ (us : List QueueUnit). chosen low (low + length queue) from (after_looking this from low (low + length queue) test us)) rest
    ∙ (ap (λ p. chosen low (low + length queue) from p) (looking_as f from low (low + length queue) test (examined f most test [] (drop (from - low) queue)))
    ∙ chosen_as f low (low + length queue) from (after_looking f from low (low + length queue) test (examined f most test [] (drop (from - low) queue)))))
