-- Where the last pending record lies in the segment of the first, all of them do.
use Rattle.std.proofs.Common.{◌≡◌, refl, ap, sym, ◌∙◌, subst, arith, ℕ, suc, ◌+◌, ◌-◌, ◌/◌, ◌<◌, ◌≤◌, ◌==◌, cond, Bool, true, List, [], ◌∷◌, length, take, drop, get_or, sum_by, slice_get, Some}
use Rattle.std.specs.List.{prefix_len}
use Rattle.std.specs.List.Sorted.{IsNonDecreasingBy}
use Rattle.std.proofs.lemmas.Bool.{eq-eqb}
use Rattle.std.proofs.lemmas.List.{length-drop}
use Rattle.std.proofs.lemmas.Nat.{le-div}
use Rattle.std.proofs.lemmas.Option.{get_or_from_slice_get}
use Rattle.std.proofs.Math.Nat.{div-mul-le_self}
use Rattle.std.proofs.Math.Seq.{take-length}
use Rattle.log_model.specs.Numbered.{Log, IsLawful}
use Rattle.pending_log.specs.declared.extent.Extent.{Extent}
use Rattle.pending_log.specs.declared.rows.Row.{Row}
use Rattle.pending_log.specs.Extents.{IsExtent}
use Rattle.pending_log.specs.Parts.{PendingPart}
use Rattle.pending_log.specs.Pending.{IsPendingOf}
use Rattle.pending_log.specs.Rows.{AreRowsOf}
use Rattle.pending_log.specs.Tables.{RowTable}
use Rattle.pending_log.proofs.ExtentLemmas.{is_extent}
use Rattle.pending_log.proofs.Lists.{drop_get, get_drop, get_within}
use Rattle.pending_log.proofs.LogLemmas.{rows_in_order}
use Rattle.pending_log.proofs.TakeLemmas.{pending_short, rows_end}

-- the front of a list whose items all pass a test
all_pass : {A : Type 0} (p : A → Bool) (xs : List A) → ((k : ℕ) (x : A) → slice_get xs k ≡ Some x → p x ≡ true) → prefix_len p xs ≡ length xs
all_pass p [] each = refl
all_pass p (y ∷ xs) each = ap (λ b. cond b (1 + prefix_len p xs) 0) (each 0 y refl) ∙ ap (λ n. 1 + n) (all_pass p xs (λ k x at. each (suc k) x at)) ∙ (let e : 1 + length xs ≡ suc (length xs) = omega arith in e)

segments_rise : (S m n : ℕ) → 0 < S → m ≤ n → m / S ≤ n / S
segments_rise S m n some up = let low = div-mul-le_self m S in le-div (m / S) n S some (omega (arith, low, up))

-- a later row has no lower place
rises : (S : ℕ) (log : Log) (rows : RowTable) (i j : ℕ) (x y : Row) → IsLawful S log → AreRowsOf log rows → i ≤ j → slice_get rows.items i ≡ Some x → slice_get rows.items j ≡ Some y → x.place ≤ y.place
rises S log rows i j x y lawful are up at_i at_j =
    let order : IsNonDecreasingBy (λ (row : Row). row.place) rows.items =
    subst (λ (xs : List Row). IsNonDecreasingBy (λ (row : Row). row.place) xs) (take-length rows.items) (rows_in_order S log rows (length rows.items) lawful are refl) in
    let low : get_or rows.items i x ≡ x = get_or_from_slice_get rows.items i x x at_i in
    let high : get_or rows.items j x ≡ y = get_or_from_slice_get rows.items j y x at_j in
    subst (λ (z : Row). x.place ≤ z.place) high (subst (λ (z : Row). z.place ≤ (get_or rows.items j x).place) low (order i j x up (get_within rows.items j y at_j)))

pub whole_extent : (log : Log) (p : PendingPart) (rows : RowTable) (first last : Row) (extent : Extent) → 0 < p.segment → IsLawful p.segment log → IsPendingOf log p → AreRowsOf log rows → p.flushed < p.count
    → slice_get rows.items (p.flushed - rows.first) ≡ Some first → slice_get rows.items ((p.count - 1) - rows.first) ≡ Some last → first.place / p.segment ≡ last.place / p.segment
    → extent.count ≡ p.count - p.flushed → extent.bytes ≡ length p.bytes → IsExtent p.segment rows.items (p.flushed - rows.first) extent
whole_extent log p rows first last extent some lawful are of pending at_first at_last same count bytes =
    let S = p.segment in
    let f = p.flushed - rows.first in
    let xs = drop f rows.items in
    let end = rows_end log rows of in
    let number = are.count in
    let kept = are.kept in
    let base = of.first in
    let long : length xs ≡ length rows.items - f = length-drop f rows.items in
    let each : (k : ℕ) (x : Row) → slice_get xs k ≡ Some x → (x.place / S == first.place / S) ≡ true = λ k x at.
    let here = get_drop rows.items f k x at in
    let within = get_within rows.items (f + k) x here in
    let low = segments_rise S first.place x.place some (rises S log rows f (f + k) first x lawful of (omega arith) at_first here) in
    let high = segments_rise S x.place last.place some (rises S log rows (f + k) ((p.count - 1) - rows.first) x last lawful of (omega (arith, within, end, number)) here at_last) in
    eq-eqb (x.place / S) (first.place / S) (omega (arith, low, high, same)) in
    let sum : length p.bytes ≡ sum_by (λ (r : Row). r.size) (take (length xs) xs) =
    sym (pending_short log p rows are of) ∙ ap (λ (ys : List Row). sum_by (λ (r : Row). r.size) ys) (sym (take-length xs)) in
    is_extent S rows.items f first S refl (length xs) (length p.bytes) extent
    (drop_get rows.items f 0 first (subst (λ k. slice_get rows.items k ≡ Some first) (let e : f ≡ f + 0 = omega arith in e) at_first))
    (all_pass (λ (r : Row). r.place / S == first.place / S) xs each) sum (omega (arith, count, long, end, number, kept, base)) bytes
