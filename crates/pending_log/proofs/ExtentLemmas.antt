-- The front of a list that passes a test.
use Rattle.std.proofs.Common.{◌≡◌, refl, ap, sym, ◌∙◌, subst, arith, ℕ, zero, suc, ◌+◌, ◌/◌, ◌≤◌, ◌==◌, Bool, true, false, cond, List, [], ◌∷◌, ◌++◌, length, take, drop, sum_by, slice_get, Some, ◌≢◌, ⊎_elim, eqb, min}
use Rattle.std.proofs.lemmas.Bool.Decides.{eqb_tells}
use Rattle.std.proofs.lemmas.List.{length-take, length-append, take-append-drop}
use Rattle.std.proofs.Math.Seq.{take-append_seam}
use Rattle.std.proofs.lemmas.Grind.{flat_map-append}
use Rattle.record_codec.specs.Entry.{Entry}
use Rattle.record_codec.specs.Layout.{size, layout}
use Rattle.record_codec.proofs.LayoutLengths.{length-layout}
use Rattle.log_model.specs.Segments.{layouts}
use Rattle.pending_log.specs.declared.extent.Extent.{Extent}
use Rattle.std.specs.List.{prefix_len}
use Rattle.std.proofs.lemmas.List.Sums.{sum_by-cons, sum_by-append}
use Rattle.pending_log.specs.declared.rows.Row.{Row}
use Rattle.pending_log.specs.Extents.{rows_in, same_segment, IsExtent}
use Rattle.pending_log.specs.Rows.{AreAlike}
use Rattle.pending_log.proofs.Lists.{take_next, some_one}

-- the test goes on
pub prefix_more : {A : Type 0} (p : A → Bool) (xs : List A) (n : ℕ) (x : A) → n ≤ prefix_len p xs → slice_get xs n ≡ Some x → p x ≡ true → suc n ≤ prefix_len p xs
prefix_more p [] n x h e passes = cc e
prefix_more p (y ∷ xs) zero x h e passes = let P : Bool → Type 0 = λ b. 1 ≤ cond b (1 + prefix_len p xs) 0 in subst P (sym (ap p (some_one e) ∙ passes)) (omega arith)
prefix_more p (y ∷ xs) (suc n) x h e passes =
    (elim (p y) as (λ b. suc n ≤ cond b (1 + prefix_len p xs) 0 → suc (suc n) ≤ cond b (1 + prefix_len p xs) 0) [
      | true ↦ λ low. let more = prefix_more p xs n x (omega (arith, low)) e passes in omega (arith, more)
      | false ↦ λ low. absurd (let none : ⊥ = omega (arith, low) in none)
    ]) h

-- the test ends
pub prefix_ends : {A : Type 0} (p : A → Bool) (xs : List A) (n : ℕ) (x : A) → n ≤ prefix_len p xs → slice_get xs n ≡ Some x → p x ≡ false → prefix_len p xs ≡ n
prefix_ends p [] n x h e fails = cc e
prefix_ends p (y ∷ xs) zero x h e fails = ap (λ b. cond b (1 + prefix_len p xs) 0) (ap p (some_one e) ∙ fails)
prefix_ends p (y ∷ xs) (suc n) x h e fails =
    (elim (p y) as (λ b. suc n ≤ cond b (1 + prefix_len p xs) 0 → cond b (1 + prefix_len p xs) 0 ≡ suc n) [
      | true ↦ λ low. let ends = prefix_ends p xs n x (omega (arith, low)) e fails in omega (arith, ends)
      | false ↦ λ low. absurd (let none : ⊥ = omega (arith, low) in none)
    ]) h

-- no longer than the list
pub prefix_within : {A : Type 0} (p : A → Bool) (xs : List A) → prefix_len p xs ≤ length xs
prefix_within p [] = omega arith
prefix_within p (y ∷ xs) = let few = prefix_within p xs in elim (p y) as (λ b. cond b (1 + prefix_len p xs) 0 ≤ length (y ∷ xs)) [ true ↦ omega (arith, few) | false ↦ omega arith ]

-- the sum of the sizes of a front that is one longer
pub sum_next : (xs : List Row) (n : ℕ) (row : Row) → slice_get xs n ≡ Some row → sum_by (λ r. r.size) (take (suc n) xs) ≡ sum_by (λ r. r.size) (take n xs) + row.size
sum_next xs n row e =
    ap (λ (ys : List Row). sum_by (λ r. r.size) ys) (take_next xs n row e) ∙ (sum_by-append (λ r. r.size) (take n xs) (row ∷ [])
    ∙ ap (λ m. sum_by (λ r. r.size) (take n xs) + m) (sum_by-cons (λ r. r.size) row [] ∙ (let z : row.size + 0 ≡ row.size = omega arith in z)))

-- one row more
pub counted : (p : Row → Bool) (xs : List Row) (n : ℕ) (row : Row) (bytes : ℕ) → (n ≤ prefix_len p xs) × (bytes ≡ sum_by (λ r. r.size) (take n xs)) → slice_get xs n ≡ Some row → p row ≡ true
    → (suc n ≤ prefix_len p xs) × (bytes + row.size ≡ sum_by (λ r. r.size) (take (suc n) xs))
counted p xs n row bytes so_far e passes = (prefix_more p xs n row so_far.0 e passes, ap (λ m. m + row.size) so_far.1 ∙ sym (sum_next xs n row e))

-- the rows of a batch
pub rows_in_is : (S : ℕ) (xs : List Row) (row : Row) → slice_get xs 0 ≡ Some row → rows_in S xs ≡ take (prefix_len (λ r. r.place / S == row.place / S) xs) xs
rows_in_is S [] row e = cc e
rows_in_is S (x ∷ xs) row e = let same : x ≡ row = some_one e in ap (λ (q : Row). take (prefix_len (λ r. r.place / S == q.place / S) (x ∷ xs)) (x ∷ xs)) same

pub not_in : (m n : ℕ) → (m ≡ n → ⊥) → (m == n) ≡ false
not_in m n differ = ⊎_elim (λ (same : (eqb m n ≡ true) × (m ≡ n)). absurd (differ same.1)) (λ (other : (eqb m n ≡ false) × (m ≢ n)). other.0) (eqb_tells m n)

-- so many rows, with so many bytes, are the batch
pub is_extent : (S : ℕ) (rows : List Row) (from : ℕ) (first : Row) (divisor : ℕ) → divisor ≡ S → (n bytes : ℕ) (extent : Extent) → slice_get (drop from rows) 0 ≡ Some first
    → prefix_len (λ (r : Row). r.place / S == first.place / divisor) (drop from rows) ≡ n → bytes ≡ sum_by (λ (r : Row). r.size) (take n (drop from rows)) → extent.count ≡ n → extent.bytes ≡ bytes → IsExtent S rows from extent
is_extent S rows from first divisor same n bytes extent at long sum count size =
    let xs = drop from rows in
    let test : prefix_len (λ (r : Row). r.place / S == first.place / S) xs ≡ n = ap (λ m. prefix_len (λ (r : Row). r.place / S == first.place / m) xs) (sym same) ∙ long in
    let is : rows_in S xs ≡ take n xs = rows_in_is S xs first at ∙ ap (λ m. take m xs) test in
    let few = prefix_within (λ (r : Row). r.place / S == first.place / S) xs in
    let counted_n : length (take n xs) ≡ n = length-take n xs ∙ (let e : min n (length xs) ≡ n = omega (arith, few, test) in e) in
    record {
      count = count ∙ (sym counted_n ∙ ap (λ (ys : List Row). length ys) (sym is));
      bytes = size ∙ (sum ∙ ap (λ (ys : List Row). sum_by (λ (r : Row). r.size) ys) (sym is));
    }

-- those behind a front
pub alike_drop : (rows : List Row) (records : List Entry) (n : ℕ) → AreAlike rows records → AreAlike (drop n rows) (drop n records)
alike_drop rows records zero are = are
alike_drop [] [] (suc n) are = tt
alike_drop [] (r ∷ records) (suc n) are = absurd are
alike_drop (row ∷ rows) [] (suc n) are = absurd are
alike_drop (row ∷ rows) (r ∷ records) (suc n) are = alike_drop rows records n are.2

pub alike_long : (rows : List Row) (records : List Entry) → AreAlike rows records → length rows ≡ length records
alike_long [] [] are = refl
alike_long [] (r ∷ records) are = absurd are
alike_long (row ∷ rows) [] are = absurd are
alike_long (row ∷ rows) (r ∷ records) are = let long = alike_long rows records are.2 in omega (arith, long)

-- the tests agree
same_prefix : (S k : ℕ) (rows : List Row) (records : List Entry) → AreAlike rows records → prefix_len (λ (x : Row). x.place / S == k) rows ≡ prefix_len (λ (x : Entry). x.offset / S == k) records
same_prefix S k [] [] are = refl
same_prefix S k [] (r ∷ records) are = absurd are
same_prefix S k (row ∷ rows) [] are = absurd are
same_prefix S k (row ∷ rows) (r ∷ records) are =
    ap (λ p. cond (p / S == k) (1 + prefix_len (λ (x : Row). x.place / S == k) rows) 0) are.0
    ∙ ap (λ m. cond (r.offset / S == k) (1 + m) 0) (same_prefix S k rows records are.2)

-- and the sizes
pub same_sum : (rows : List Row) (records : List Entry) (n : ℕ) → AreAlike rows records → sum_by (λ (x : Row). x.size) (take n rows) ≡ length (layouts (take n records))
same_sum rows records zero are = refl
same_sum [] [] (suc n) are = refl
same_sum [] (r ∷ records) (suc n) are = absurd are
same_sum (row ∷ rows) [] (suc n) are = absurd are
same_sum (row ∷ rows) (r ∷ records) (suc n) are =
    sum_by-cons (λ (x : Row). x.size) row (take n rows)
    ∙ (ap (λ m. row.size + m) (same_sum rows records n are.2)
    ∙ (ap (λ m. m + length (layouts (take n records))) (are.1 ∙ sym (length-layout r)) ∙ sym (length-append (layout r) (layouts (take n records)))))

-- the rows of a batch have as many records and bytes as the batch
pub batch_is : (S : ℕ) (rows : List Row) (records : List Entry) → AreAlike rows records → (length (rows_in S rows) ≡ length (same_segment S records)) × (sum_by (λ (x : Row). x.size) (rows_in S rows) ≡ length (layouts (same_segment S records)))
batch_is S [] [] are = (refl, refl)
batch_is S [] (r ∷ records) are = absurd are
batch_is S (row ∷ rows) [] are = absurd are
batch_is S (row ∷ rows) (r ∷ records) are =
    let n = prefix_len (λ (x : Entry). x.offset / S == r.offset / S) (r ∷ records) in
    let same : prefix_len (λ (x : Row). x.place / S == row.place / S) (row ∷ rows) ≡ n =
    ap (λ p. prefix_len (λ (x : Row). x.place / S == p / S) (row ∷ rows)) are.0 ∙ same_prefix S (r.offset / S) (row ∷ rows) (r ∷ records) are in
    let long : length (row ∷ rows) ≡ length (r ∷ records) = alike_long (row ∷ rows) (r ∷ records) are in (
      ap (λ m. length (take m (row ∷ rows))) same ∙ (length-take n (row ∷ rows) ∙ (ap (λ m. min n m) long ∙ sym (length-take n (r ∷ records)))),
      ap (λ m. sum_by (λ (x : Row). x.size) (take m (row ∷ rows))) same ∙ same_sum (row ∷ rows) (r ∷ records) n are,
    )

-- a batch is a front of the pending records
pub batch_front : (S : ℕ) (records : List Entry) → same_segment S records ≡ take (length (same_segment S records)) records
batch_front S [] = refl
batch_front S (r ∷ records) =
    let n = prefix_len (λ (x : Entry). x.offset / S == r.offset / S) (r ∷ records) in
    let few = prefix_within (λ (x : Entry). x.offset / S == r.offset / S) (r ∷ records) in
    ap (λ m. take m (r ∷ records)) (sym (length-take n (r ∷ records) ∙ (let e : min n (length (r ∷ records)) ≡ n = omega (arith, few) in e)))

-- the bytes of a batch are the first of the pending bytes
pub batch_bytes : (S : ℕ) (records : List Entry) (bytes : List ℕ) (n : ℕ) → bytes ≡ layouts records → n ≡ length (layouts (same_segment S records)) → take n bytes ≡ layouts (same_segment S records)
batch_bytes S records bytes n are is =
    let front = batch_front S records in
    let count = length (same_segment S records) in
    let parts : layouts records ≡ layouts (same_segment S records) ++ layouts (drop count records) =
    ap layouts (sym (take-append-drop count records)) ∙ (flat_map-append layout (take count records) (drop count records) ∙ ap (λ (rs : List Entry). layouts rs ++ layouts (drop count records)) (sym front)) in
    ap (λ (bs : List ℕ). take n bs) (are ∙ parts) ∙ (ap (λ m. take m (layouts (same_segment S records) ++ layouts (drop count records))) is ∙ take-append_seam (layouts (same_segment S records)) (layouts (drop count records)))
