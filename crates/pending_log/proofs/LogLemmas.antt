-- Where the records of a log end, and that their places rise.
use Rattle.std.proofs.Common.{◌≡◌, ◌≢◌, eqb, ◌⊎◌, ⊎_elim, inl, inr, refl, ap, sym, ◌∙◌, subst, arith, ℕ, zero, suc, ◌+◌, ◌-◌, ◌*◌, ◌/◌, ◌%◌, ◌<◌, ◌≤◌, true, false, List, [], ◌∷◌, length, take, get_or, slice_get, Some, None, if◌then◌else◌}
use Rattle.std.proofs.lemmas.Bool.Decides.{eqb_tells}
use Rattle.std.proofs.Math.Nat.{lt-div-mul-add, div-mul-le_self}
use Rattle.std.specs.List.Sorted.{IsNonDecreasingBy}
use Rattle.std.proofs.lemmas.Option.{get_or_from_slice_get}
use Rattle.std.proofs.Math.Seq.{take-length}
use Rattle.record_codec.specs.Entry.{Entry}
use Rattle.record_codec.specs.Layout.{size}
use Rattle.log_model.specs.Bases.{Base, Geometry, geometry}
use Rattle.log_model.specs.Log.{end_of, fits, place_after, IsWellFormed}
use Rattle.log_model.specs.Numbered.{Log, IsLawful}
use Rattle.log_model.proofs.Lists.{option_cases}
use Rattle.log_model.proofs.Places.{end_of-append}
use Rattle.pending_log.specs.declared.rows.Row.{Row}
use Rattle.pending_log.specs.Rows.{AreAlike, AreRowsOf}
use Rattle.pending_log.specs.Tables.{RowTable}
use Rattle.pending_log.proofs.Lists.{get_there, take_next, some_one}

next_times : (q S : ℕ) → (q + 1) * S ≡ q * S + S
next_times q S = grind arith

past_div : (S end : ℕ) → 0 < S → end ≤ (end / S + 1) * S
past_div S end some = let past : end < end / S * S + S = lt-div-mul-add some in let same : (end / S + 1) * S ≡ end / S * S + S = next_times (end / S) S in omega (arith, past, same)

-- the next place is not below the end
pub place_past : (S end n : ℕ) → 0 < S → end ≤ place_after S end n
place_past S end n some =
    elim (fits S (end % S) n) as (λ b. end ≤ (if b then end else (end / S + 1) * S)) [ true ↦ omega arith | false ↦ past_div S end some ]

-- nor further behind it than a segment is long
pub place_near : (S end n : ℕ) → place_after S end n ≤ end + S
place_near S end n =
    let low : end / S * S ≤ end = div-mul-le_self end S in
    let same : (end / S + 1) * S ≡ end / S * S + S = next_times (end / S) S in
    elim (fits S (end % S) n) as (λ b. (if b then end else (end / S + 1) * S) ≤ end + S) [ true ↦ omega arith | false ↦ omega (arith, low, same) ]

-- a front that goes past the end
take_past : {A : Type 0} (xs : List A) (n : ℕ) → slice_get xs n ≡ None → take (suc n) xs ≡ take n xs
take_past [] zero e = refl
take_past [] (suc n) e = refl
take_past (x ∷ xs) zero e = cc e
take_past (x ∷ xs) (suc n) e = ap (λ (ys : List _). x ∷ ys) (take_past xs n e)

-- where they end with the next one
pub ends_with : (base : Base) (records : List Entry) (n : ℕ) (r : Entry) → slice_get records n ≡ Some r → end_of base (take (suc n) records) ≡ r.offset + size r
ends_with base records n r at = ap (λ (rs : List Entry). end_of base rs) (take_next records n r at) ∙ end_of-append base (take n records) r

end_step : (S : Geometry) (records : List Entry) → IsWellFormed S records → (n : ℕ) → end_of S.base (take n records) ≤ end_of S.base (take (suc n) records)
end_step S records well n =
    ⊎_elim (λ (none : slice_get records n ≡ None). let same : end_of S.base (take (suc n) records) ≡ end_of S.base (take n records) = ap (λ (rs : List Entry). end_of S.base rs) (take_past records n none) in omega (arith, same))
    (λ (some : (r : Entry) × (slice_get records n ≡ Some r)).
    let r = some.0 in
    let follows = well.each n r some.1 in
    let past = place_past S.size (end_of S.base (take n records)) (size r) (let low = well.segment.low in omega (arith, low)) in
    let end_is = ends_with S.base records n r some.1 in
    omega (arith, past, end_is, follows.place))
    (option_cases (slice_get records n))

ends_up : (S : Geometry) (records : List Entry) → IsWellFormed S records → (m d : ℕ) → end_of S.base (take m records) ≤ end_of S.base (take (m + d) records)
ends_up S records well m zero = subst (λ k. end_of S.base (take m records) ≤ end_of S.base (take k records)) (let e : m ≡ m + 0 = omega arith in e) (let e : end_of S.base (take m records) ≤ end_of S.base (take m records) = omega arith in e)
ends_up S records well m (suc d) =
    let before = ends_up S records well m d in
    let step = end_step S records well (m + d) in
    subst (λ k. end_of S.base (take m records) ≤ end_of S.base (take k records)) (let e : suc (m + d) ≡ m + suc d = omega arith in e) (omega (arith, before, step))

-- an earlier record ends where a later one begins, or before
pub places_rise : (S : Geometry) (records : List Entry) → IsWellFormed S records → (i j : ℕ) (r q : Entry) → i < j → slice_get records i ≡ Some r → slice_get records j ≡ Some q → r.offset + size r ≤ q.offset
places_rise S records well i j r q before at_i at_j =
    let end_is = ends_with S.base records i r at_i in
    let up = ends_up S records well (suc i) (j - suc i) in
    let all : suc i + (j - suc i) ≡ j = omega (arith, before) in
    let here : end_of S.base (take (suc i) records) ≤ end_of S.base (take j records) = subst (λ m. end_of S.base (take (suc i) records) ≤ end_of S.base (take m records)) all up in
    let past = place_past S.size (end_of S.base (take j records)) (size q) (let low = well.segment.low in omega (arith, low)) in
    let follows = well.each j q at_j in
    omega (arith, end_is, here, past, follows.place)

-- the record of a row
pub record_of : (rows : List Row) (records : List Entry) (k : ℕ) (row : Row) → AreAlike rows records → slice_get rows k ≡ Some row
    → (r : Entry) × (slice_get records k ≡ Some r) × (row.place ≡ r.offset) × (row.size ≡ size r)
record_of [] records k row are at = cc at
record_of (x ∷ rows) [] k row are at = absurd are
record_of (x ∷ rows) (r ∷ records) zero row are at = let same : x ≡ row = some_one at in (r, refl, ap (λ (y : Row). y.place) (sym same) ∙ are.0, ap (λ (y : Row). y.size) (sym same) ∙ are.1)
record_of (x ∷ rows) (r ∷ records) (suc k) row are at = record_of rows records k row are.2 at

-- at or before is before, or the same
parted : (i j : ℕ) → i ≤ j → (i < j) ⊎ (i ≡ j)
parted i j h = ⊎_elim (λ (same : (eqb i j ≡ true) × (i ≡ j)). inr same.1) (λ (other : (eqb i j ≡ false) × (i ≢ j)). let ne = other.1 in inl (omega (arith, h, ne))) (eqb_tells i j)

-- the places of rows rise
rows_rise : (rows : List Row) → ((i j : ℕ) (x y : Row) → i < j → slice_get rows i ≡ Some x → slice_get rows j ≡ Some y → x.place ≤ y.place) → IsNonDecreasingBy (λ (row : Row). row.place) rows
rows_rise rows each i j d before within =
    let at_i = get_there rows i (omega (arith, before, within)) in
    let at_j = get_there rows j within in
    let low : get_or rows i d ≡ at_i.0 = get_or_from_slice_get rows i at_i.0 d at_i.1 in
    let high : get_or rows j d ≡ at_j.0 = get_or_from_slice_get rows j at_j.0 d at_j.1 in
    ⊎_elim (λ (earlier : i < j).
    let up = each i j at_i.0 at_j.0 earlier at_i.1 at_j.1 in
    subst (λ (z : Row). (get_or rows i d).place ≤ z.place) (sym high) (subst (λ (z : Row). z.place ≤ at_j.0.place) (sym low) up))
    (λ (same : i ≡ j). subst (λ k. (get_or rows i d).place ≤ (get_or rows k d).place) same (omega arith))
    (parted i j before)

pub rows_in_order : (S : ℕ) (log : Log) (rows : RowTable) (n : ℕ) → IsLawful S log → AreRowsOf log rows → n ≡ length rows.items → IsNonDecreasingBy (λ (row : Row). row.place) (take n rows.items)
rows_in_order S log rows n well are all =
    subst (λ (xs : List Row). IsNonDecreasingBy (λ (row : Row). row.place) xs) (sym (ap (λ m. take m rows.items) all ∙ take-length rows.items))
    (rows_rise rows.items (λ i j x y before at_i at_j.
    let r = record_of rows.items log.records i x are.items at_i in
    let q = record_of rows.items log.records j y are.items at_j in
    let up = places_rise (geometry S log.base) log.records well i j r.0 q.0 before r.1 q.1 in
    omega (arith, up, r.2, q.2)))
