-- Places that don't fall: what stands at one, and what from one on.
use Rattle.std.proofs.Common.{◌≡◌, ◌∙◌, ◌≢◌, ◌⊎◌, inl, inr, ℕ, zero, suc, ◌<◌, ◌≤◌, Bool, true, false, cond, nat_le, nat_lt, List, [], ◌∷◌, length, get_or, drop, filter, slice_get, Some, None, refl, sym, ap, subst, arith}
use Rattle.std.specs.Prelude.{◌==◌, option_map}
use Rattle.std.specs.List.{AllWithin, position_or_len}
use Rattle.std.proofs.lemmas.List.Sums.{position_or_len_is}
use Rattle.std.specs.List.Sorted.{IsNonDecreasingBy}
use Rattle.std.proofs.lemmas.Bool.{cases_lt, cases_Bool, leb-true, le-leb, ltb-true, ltb-false, eq-eqb, ne_eqb}
use Rattle.half_view.specs.declared.row.HalfRow.{HalfRow}
use Rattle.half_view.specs.Halves.{family_in}
use Rattle.half_view.proofs.ListLemmas.{get_there, got_or, get_within, find_here, find_none}

-- ---- places

-- those before the point stand before the place
pub before_point : (rows xs : List HalfRow) (place k : ℕ) → xs ≡ rows → AllWithin (λ (y : HalfRow). nat_lt y.place place ≡ true) xs 0 k
    → (j : ℕ) (x : HalfRow) → j < k → slice_get rows j ≡ Some x → x.place < place
before_point rows xs place k same within j x less at =
    let there = subst (λ (rs : List HalfRow). slice_get rs j ≡ Some x) (sym same) at in
    ltb-true x.place place (subst (λ (y : HalfRow). nat_lt y.place place ≡ true) (got_or xs j x x there) (within j x (omega arith) less))

-- and those from it on past the place, where the first of them isn't there
pub behind_point : (rows xs : List HalfRow) (place k : ℕ) → xs ≡ rows → AllWithin (λ (y : HalfRow). nat_lt y.place place ≡ false) xs k (length xs)
    → IsNonDecreasingBy (λ (y : HalfRow). y.place) rows → ((x : HalfRow) → slice_get rows k ≡ Some x → x.place ≢ place)
    → (j : ℕ) (x : HalfRow) → k ≤ j → slice_get rows j ≡ Some x → place < x.place
behind_point rows xs place k same within rising not j x more at =
    let low = get_within rows j x at in
    let first = get_there rows k (omega (arith, low, more)) in
    let there = subst (λ (rs : List HalfRow). slice_get rs k ≡ Some first.0) (sym same) first.1 in
    let inside = get_within xs k first.0 there in
    let past : place ≤ first.0.place = ltb-false first.0.place place (subst (λ (y : HalfRow). nat_lt y.place place ≡ false) (got_or xs k first.0 first.0 there) (within k first.0 (omega arith) inside)) in
    let rises : first.0.place ≤ x.place = subst (λ (y : HalfRow). first.0.place ≤ y.place) (got_or rows j x x at)
    (subst (λ (y : HalfRow). y.place ≤ (get_or rows j x).place) (got_or rows k first.0 x first.1) (rising k j x more low)) in
    elim (cases_lt place first.0.place) [
      | inl less ↦ omega (arith, less, rises)
      | inr high ↦ absurd (not first.0 first.1 (let e : first.0.place ≡ place = omega (arith, high, past) in e))
    ]

-- the half message at a place is the first that isn't before it
pub place_found : (rows : List HalfRow) (place k : ℕ) (row : HalfRow) → ((j : ℕ) (x : HalfRow) → j < k → slice_get rows j ≡ Some x → x.place < place)
    → slice_get rows k ≡ Some row → row.place ≡ place → Some row.names ≡ family_in rows place
place_found rows place k row before at is =
    sym (ap (option_map (λ (x : HalfRow). x.names)) (find_here (λ (x : HalfRow). x.place == place) rows k row at (eq-eqb row.place place is)
    (λ j x less there. ne_eqb x.place place (λ same. let low = before j x less there in omega (arith, low, same)))))

-- past it there is none
pub place_absent : (rows : List HalfRow) (place k : ℕ) → ((j : ℕ) (x : HalfRow) → j < k → slice_get rows j ≡ Some x → x.place < place)
    → ((j : ℕ) (x : HalfRow) → k ≤ j → slice_get rows j ≡ Some x → place < x.place) → None ≡ family_in rows place
place_absent rows place k before behind =
    sym (ap (option_map (λ (x : HalfRow). x.names)) (find_none (λ (x : HalfRow). x.place == place) rows
    (λ j x there. ne_eqb x.place place (λ same. elim (cases_lt j k) [
      | inl less ↦ (let low = before j x less there in omega (arith, low, same))
      | inr more ↦ (let high = behind j x more there in omega (arith, high, same))
    ]))))

-- ---- what stands from a place on

not_le : (a b : ℕ) → b < a → nat_le a b ≡ false
not_le a b less = elim (cases_Bool (nat_le a b)) [
  | inl is ↦ absurd (let most = leb-true a b is in omega (arith, most, less))
  | inr is ↦ is
]

pub before_place : (rows xs : List HalfRow) (place k : ℕ) → xs ≡ rows → AllWithin (λ (y : HalfRow). nat_lt y.place place ≡ true) xs 0 k
    → (j : ℕ) (x : HalfRow) → j < k → slice_get rows j ≡ Some x → nat_le place x.place ≡ false
before_place rows xs place k same within j x less at = not_le place x.place (before_point rows xs place k same within j x less at)

pub from_place : (rows xs : List HalfRow) (place k : ℕ) → xs ≡ rows → AllWithin (λ (y : HalfRow). nat_lt y.place place ≡ false) xs k (length xs)
    → (j : ℕ) (x : HalfRow) → k ≤ j → slice_get rows j ≡ Some x → nat_le place x.place ≡ true
from_place rows xs place k same within j x more at =
    let there = subst (λ (rs : List HalfRow). slice_get rs j ≡ Some x) (sym same) at in
    le-leb place x.place (ltb-false x.place place (subst (λ (y : HalfRow). nat_lt y.place place ≡ false) (got_or xs j x x there) (within j x more (get_within xs j x there))))

pub rest_is : (place k : ℕ) (rows : List HalfRow) → k ≤ length rows → ((j : ℕ) (x : HalfRow) → j < k → slice_get rows j ≡ Some x → nat_le place x.place ≡ false)
    → ((j : ℕ) (x : HalfRow) → k ≤ j → slice_get rows j ≡ Some x → nat_le place x.place ≡ true)
    → drop k rows ≡ filter (λ (x : HalfRow). nat_le place x.place) rows
rest_is place zero [] within before behind = refl
rest_is place (suc k) [] within before behind = refl
rest_is place zero (x ∷ xs) within before behind =
    ap (λ (l : List HalfRow). x ∷ l) (rest_is place zero xs (omega arith) (λ j y less at. absurd (omega (arith, less))) (λ j y more at. behind (suc j) y (omega arith) at))
    ∙ sym (ap (λ (b : Bool). cond b (x ∷ filter (λ (y : HalfRow). nat_le place y.place) xs) (filter (λ (y : HalfRow). nat_le place y.place) xs)) (behind 0 x (omega arith) refl))
rest_is place (suc k) (x ∷ xs) within before behind =
    rest_is place k xs (omega (arith, within)) (λ j y less at. before (suc j) y (omega (arith, less)) at) (λ j y more at. behind (suc j) y (omega (arith, more)) at)
    ∙ sym (ap (λ (b : Bool). cond b (x ∷ filter (λ (y : HalfRow). nat_le place y.place) xs) (filter (λ (y : HalfRow). nat_le place y.place) xs)) (before 0 x (omega arith) refl))

pub first_is : (place k : ℕ) (rows : List HalfRow) → k ≤ length rows → ((j : ℕ) (x : HalfRow) → j < k → slice_get rows j ≡ Some x → nat_le place x.place ≡ false)
    → ((j : ℕ) (x : HalfRow) → k ≤ j → slice_get rows j ≡ Some x → nat_le place x.place ≡ true)
    → k ≡ position_or_len (λ (x : HalfRow). nat_le place x.place) rows
first_is place k rows within before behind = by_length (cases_lt k (length rows))
  where
    by_length : (k < length rows) ⊎ (length rows ≤ k) → k ≡ position_or_len (λ (x : HalfRow). nat_le place x.place) rows
    by_length (inl less) =
        let there = get_there rows k less in
        sym (position_or_len_is (λ (x : HalfRow). nat_le place x.place) rows k there.0 within
        (λ j few. let it = get_there rows j (omega (arith, few, less)) in ap (λ (x : HalfRow). nat_le place x.place) (got_or rows j it.0 there.0 it.1) ∙ before j it.0 few it.1)
        (λ inside. ap (λ (x : HalfRow). nat_le place x.place) (got_or rows k there.0 there.0 there.1) ∙ behind k there.0 (omega arith) there.1))
    by_length (inr over) = past rows k within over before
      where
        past : (xs : List HalfRow) (n : ℕ) → n ≤ length xs → length xs ≤ n → ((j : ℕ) (x : HalfRow) → j < n → slice_get xs j ≡ Some x → nat_le place x.place ≡ false)
            → n ≡ position_or_len (λ (x : HalfRow). nat_le place x.place) xs
        past [] n low high fails = omega (arith, low)
        past (x ∷ xs) n low high fails =
            sym (position_or_len_is (λ (y : HalfRow). nat_le place y.place) (x ∷ xs) n x low
            (λ j few. let it = get_there (x ∷ xs) j (omega (arith, few, low)) in ap (λ (y : HalfRow). nat_le place y.place) (got_or (x ∷ xs) j it.0 x it.1) ∙ fails j it.0 few it.1)
            (λ inside. absurd (omega (arith, inside, high))))
