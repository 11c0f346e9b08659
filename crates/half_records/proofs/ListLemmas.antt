-- Lists of what is kept, where one row is another.
use Rattle.std.proofs.Common.{◌≡◌, ◌∙◌, ◌≢◌, inl, inr, ℕ, zero, suc, ◌+◌, ◌-◌, ◌<◌, ◌≤◌, Bool, true, false, cond, List, [], ◌∷◌, ◌++◌, length, set, slice_get, Some, None, refl, sym, ap, subst, arith, length-set}
use Rattle.std.specs.Prelude.{nat_lt}
use Rattle.std.proofs.lemmas.Bool.{cases_eq, cases_Bool, ltb-true, ltb-false, lt-ltb}
use Rattle.std.proofs.lemmas.Option.{same_Some}
use Rattle.record_codec.specs.Entry.{Entry}
use Rattle.half_records.specs.Kept.{KeptRow, IsKeptWith, AreKeptWith}

-- ---- what is at a place of a list

pub set_here : {A : Type 0} (xs : List A) (k : ℕ) (y x : A) → slice_get xs k ≡ Some x → slice_get (set xs k y) k ≡ Some y
set_here [] k y x at = cc at
set_here (z ∷ xs) zero y x at = refl
set_here (z ∷ xs) (suc k) y x at = set_here xs k y x at

pub set_other : {A : Type 0} (xs : List A) (k j : ℕ) (y : A) → j ≢ k → slice_get (set xs k y) j ≡ slice_get xs j
set_other [] k j y other = refl
set_other (z ∷ xs) zero zero y other = absurd (other refl)
set_other (z ∷ xs) zero (suc j) y other = refl
set_other (z ∷ xs) (suc k) zero y other = refl
set_other (z ∷ xs) (suc k) (suc j) y other = set_other xs k j y (λ same. other (ap suc same))

pub push_front : {A : Type 0} (xs : List A) (y x : A) (k : ℕ) → slice_get xs k ≡ Some x → slice_get (xs ++ y ∷ []) k ≡ Some x
push_front [] y x k at = cc at
push_front (z ∷ xs) y x zero at = at
push_front (z ∷ xs) y x (suc k) at = push_front xs y x k at

pub push_last : {A : Type 0} (xs : List A) (y : A) (k : ℕ) → k ≡ length xs → slice_get (xs ++ y ∷ []) k ≡ Some y
push_last [] y zero is = refl
push_last [] y (suc k) is = absurd (omega (arith, is))
push_last (z ∷ xs) y zero is = absurd (omega (arith, is))
push_last (z ∷ xs) y (suc k) is = push_last xs y k (omega (arith, is))

-- ---- rows that are kept

-- no family changes
pub kept_same : (families : ℕ → List Entry → List Entry) (old new : List KeptRow) → new ≡ old
    → ((k : ℕ) (x : KeptRow) → slice_get old k ≡ Some x → x.family ≡ families k x.family) → AreKeptWith families old new
kept_same families old new is same = record {
  long = ap length is;
  each = λ k x at. (x, ap (λ (l : List KeptRow). slice_get l k) is ∙ at, record { group = refl; id = refl; family = same k x at });
}

-- one row is another one of the same half message
pub kept_set : (families : ℕ → List Entry → List Entry) (old new : List KeptRow) (k : ℕ) (x y : KeptRow) → slice_get old k ≡ Some x → new ≡ set old k y
    → IsKeptWith (families k x.family) x y → ((j : ℕ) (z : KeptRow) → j ≢ k → slice_get old j ≡ Some z → z.family ≡ families j z.family) → AreKeptWith families old new
kept_set families old new k x y at is this others = record {
  long = ap length is ∙ length-set old k y;
  each = λ j z there. elim (cases_eq j k) [
    | inl same ↦
        (let one : x ≡ z = same_Some x z (sym at ∙ ap (λ (n : ℕ). slice_get old n) (sym same) ∙ there) in (
          y,
          ap (λ (l : List KeptRow). slice_get l j) is ∙ ap (λ (n : ℕ). slice_get (set old k y) n) same ∙ set_here old k y x at,
          subst (λ (w : KeptRow). IsKeptWith (families j w.family) w y) one (subst (λ (n : ℕ). IsKeptWith (families n x.family) x y) (sym same) this),
        ))
    | inr other ↦ (
      z,
      ap (λ (l : List KeptRow). slice_get l j) is ∙ set_other old k j y other ∙ there,
      record { group = refl; id = refl; family = others j z other there },
    )
  ];
}

-- ---- the index of a number

index_by : (first half n : ℕ) (a b : Bool) → nat_lt half first ≡ a → nat_lt (half - first) n ≡ b
    → (k : ℕ) → cond a None (cond b (Some (half - first)) None) ≡ Some k → (first + k ≡ half) × (k < n)
index_by first half n true b low high k is = cc is
index_by first half n false false low high k is = cc is
index_by first half n false true low high k is =
    let same : half - first ≡ k = same_Some (half - first) k is in
    let from = ltb-false half first low in
    let within = ltb-true (half - first) n high in (omega (arith, same, from), omega (arith, same, within))

-- the half message at this index has that number
pub index_is : (first half n k : ℕ) → cond (nat_lt half first) None (cond (nat_lt (half - first) n) (Some (half - first)) None) ≡ Some k → (first + k ≡ half) × (k < n)
index_is first half n k is = index_by first half n (nat_lt half first) (nat_lt (half - first) n) refl refl k is

none_by : (first half n : ℕ) (a b : Bool) → nat_lt half first ≡ a → nat_lt (half - first) n ≡ b
    → cond a None (cond b (Some (half - first)) None) ≡ None → (k : ℕ) → k < n → half ≢ first + k
none_by first half n true b low high is k within same = let less = ltb-true half first low in omega (arith, less, same)
none_by first half n false true low high is k within same = cc is
none_by first half n false false low high is k within same = let past = ltb-false (half - first) n high in omega (arith, past, same, within)

-- none has it
pub index_none : (first half n : ℕ) → cond (nat_lt half first) None (cond (nat_lt (half - first) n) (Some (half - first)) None) ≡ None → (k : ℕ) → k < n → half ≢ first + k
index_none first half n is k within same = none_by first half n (nat_lt half first) (nat_lt (half - first) n) refl refl is k within same

not_less : (a b : ℕ) → b ≤ a → nat_lt a b ≡ false
not_less a b more = elim (cases_Bool (nat_lt a b)) [
  | inl is ↦ absurd (let less = ltb-true a b is in omega (arith, less, more))
  | inr is ↦ is
]

-- what is at the number of an index
pub at_number : {A : Type 0} (xs : List A) (first half k : ℕ) → half ≡ first + k → cond (nat_lt half first) None (slice_get xs (half - first)) ≡ slice_get xs k
at_number xs first half k is =
    ap (λ (b : Bool). cond b None (slice_get xs (half - first))) (not_less half first (omega (arith, is)))
    ∙ ap (λ (n : ℕ). slice_get xs n) (let e : half - first ≡ k = omega (arith, is) in e)

-- nothing is at a number before the first
pub at_before : {A : Type 0} (xs : List A) (first half : ℕ) → half < first → cond (nat_lt half first) None (slice_get xs (half - first)) ≡ None
at_before xs first half less = ap (λ (b : Bool). cond b None (slice_get xs (half - first))) (lt-ltb half first less)
