-- The turn that comes next: its batch is the front of the pending records that lies in one segment.
use Rattle.std.proofs.Common.{◌≡◌, refl, ap, sym, ◌∙◌, subst, arith, ℕ, zero, suc, ◌+◌, ◌-◌, ◌^◌, ◌/◌, ◌<◌, ◌≤◌, ◌==◌, cond, min, Bool, true, false, List, [], ◌∷◌, ◌++◌, length, take, drop, sum_by, slice_get, Option, Some}
use Rattle.std.specs.List.{prefix_len}
use Rattle.std.proofs.lemmas.Bool.{eq-eqb, eqb-true}
use Rattle.std.proofs.lemmas.List.{length-take, length-drop, length-append, take-append-drop}
use Rattle.std.proofs.lemmas.Grind.{flat_map-append}
use Rattle.std.proofs.Math.Seq.{take-length}
use Rattle.record_codec.specs.Entry.{Entry}
use Rattle.record_codec.specs.Layout.{size, layout}
use Rattle.log_model.specs.Bases.{geometry}
use Rattle.log_model.specs.Batches.{IsBatchOf, blank_between}
use Rattle.log_model.specs.declared.batch.Batch.{Batch}
use Rattle.log_model.specs.Log.{end_of}
use Rattle.log_model.specs.Numbered.{Log, IsLawful, count_of, below, place_end, records_from}
use Rattle.log_model.specs.Segments.{layouts}
use Rattle.pending_log.specs.declared.extent.Extent.{Extent}
use Rattle.pending_log.specs.declared.rows.Row.{Row}
use Rattle.pending_log.specs.Extents.{same_segment, IsExtent}
use Rattle.pending_log.specs.Parts.{PendingPart}
use Rattle.pending_log.specs.Pending.{IsPendingOf, IsNextTurn}
use Rattle.pending_log.specs.Rows.{AreAlike, AreRowsOf}
use Rattle.pending_log.specs.Tables.{RowTable}
use Rattle.pending_log.proofs.ExtentLemmas.{prefix_more, prefix_within, alike_drop, alike_long, same_sum, batch_is, batch_front, batch_bytes}
use Rattle.pending_log.proofs.Lists.{drop_get, some_one}
use Rattle.pending_log.proofs.LogLemmas.{place_past, place_near, ends_with, record_of}

-- ---- the front of a list that passes a test

front_passes : {A : Type 0} (p : A → Bool) (xs : List A) (k : ℕ) (x : A) → k < prefix_len p xs → slice_get xs k ≡ Some x → p x ≡ true
front_passes p [] k x low at = cc at
front_passes p (y ∷ xs) zero x low at =
    (elim (p y) as (λ b. p y ≡ b → 0 < cond b (1 + prefix_len p xs) 0 → p x ≡ true) [
      | true ↦ λ e more. ap p (sym (some_one at)) ∙ e
      | false ↦ λ e more. absurd (let none : ⊥ = omega (arith, more) in none)
    ]) refl low
front_passes p (y ∷ xs) (suc k) x low at =
    (elim (p y) as (λ b. suc k < cond b (1 + prefix_len p xs) 0 → p x ≡ true) [
      | true ↦ λ more. front_passes p xs k x (omega (arith, more)) at
      | false ↦ λ more. absurd (let none : ⊥ = omega (arith, more) in none)
    ]) low

-- how many records the segment of the first has
segment_len : (S : ℕ) (r : Entry) (records : List Entry) → length (same_segment S (r ∷ records)) ≡ prefix_len (λ (x : Entry). x.offset / S == r.offset / S) (r ∷ records)
segment_len S r records =
    let few = prefix_within (λ (x : Entry). x.offset / S == r.offset / S) (r ∷ records) in
    let n = prefix_len (λ (x : Entry). x.offset / S == r.offset / S) (r ∷ records) in
    length-take n (r ∷ records) ∙ (let e : min n (length (r ∷ records)) ≡ n = omega (arith, few) in e)

-- the first is one of them
segment_some : (S : ℕ) (records : List Entry) → 0 < length records → 0 < length (same_segment S records)
segment_some S [] some = absurd (let none : ⊥ = omega (arith, some) in none)
segment_some S (r ∷ records) some =
    let one = prefix_more (λ (x : Entry). x.offset / S == r.offset / S) (r ∷ records) 0 r (omega arith) refl (eq-eqb (r.offset / S) (r.offset / S) refl) in
    let long = segment_len S r records in
    omega (arith, one, long)

segment_within : (S : ℕ) (records : List Entry) → length (same_segment S records) ≤ length records
segment_within S [] = omega arith
segment_within S (r ∷ records) =
    let few = prefix_within (λ (x : Entry). x.offset / S == r.offset / S) (r ∷ records) in
    let long = segment_len S r records in
    omega (arith, few, long)

-- each lies in the segment of the first
segment_same : (S : ℕ) (records : List Entry) (i : ℕ) (first r : Entry) → i < length (same_segment S records) → slice_get records 0 ≡ Some first → slice_get records i ≡ Some r → r.offset / S ≡ first.offset / S
segment_same S [] i first r low at_first at = cc at
segment_same S (q ∷ records) i first r low at_first at =
    let long = segment_len S q records in
    eqb-true (r.offset / S) (q.offset / S) (front_passes (λ (x : Entry). x.offset / S == q.offset / S) (q ∷ records) i r (omega (arith, low, long)) at)
    ∙ ap (λ (x : Entry). x.offset / S) (some_one at_first)

-- ---- the pending records and their rows

-- the rows behind the flushed ones are those of the pending records
pub pending_alike : (log : Log) (flushed : ℕ) (rows : RowTable) → AreRowsOf log rows → AreAlike (drop (flushed - rows.first) rows.items) (records_from log flushed)
pending_alike log flushed rows are =
    subst (λ (n : ℕ). AreAlike (drop n rows.items) (records_from log flushed)) (ap (λ n. flushed - n) (sym are.first)) (alike_drop rows.items log.records (flushed - log.base.records) are.items)

-- as many rows as there are records
pub rows_end : (log : Log) (rows : RowTable) → AreRowsOf log rows → rows.first + length rows.items ≡ count_of log
rows_end log rows are = let long = alike_long rows.items log.records are.items in let first = are.first in omega (arith, long, first)

-- their sizes are those of the pending bytes
pub pending_short : (log : Log) (p : PendingPart) (rows : RowTable) → IsPendingOf log p → AreRowsOf log rows → sum_by (λ (r : Row). r.size) (drop (p.flushed - rows.first) rows.items) ≡ length p.bytes
pending_short log p rows are of =
    let xs = drop (p.flushed - rows.first) rows.items in
    let records = records_from log p.flushed in
    let alike = pending_alike log p.flushed rows of in
    let long = alike_long xs records alike in
    ap (λ (ys : List Row). sum_by (λ (r : Row). r.size) ys) (sym (take-length xs))
    ∙ (same_sum xs records (length xs) alike
    ∙ (ap (λ n. length (layouts (take n records))) long ∙ (ap (λ (rs : List Entry). length (layouts rs)) (take-length records) ∙ ap (λ (bs : List ℕ). length bs) (sym are.bytes))))

-- what the extent of the next batch is
pub record IsTaken (log : Log) (p : PendingPart) (extent : Extent) : Type 0 where
  pub count : extent.count ≡ length (same_segment p.segment (records_from log p.flushed))
  pub some : 0 < extent.count
  pub within : (p.flushed - log.base.records) + extent.count ≤ length log.records
  pub front : take extent.bytes p.bytes ≡ layouts (take extent.count (records_from log p.flushed))
  pub short : extent.bytes ≤ length p.bytes

pub is_taken : (log : Log) (p : PendingPart) (rows : RowTable) (extent : Extent) → IsPendingOf log p → AreRowsOf log rows → p.flushed < p.count
    → IsExtent p.segment rows.items (p.flushed - rows.first) extent → IsTaken log p extent
is_taken log p rows extent are of pending is =
    let S = p.segment in
    let records = records_from log p.flushed in
    let alike = pending_alike log p.flushed rows of in
    let both = batch_is S (drop (p.flushed - rows.first) rows.items) records alike in
    let count : extent.count ≡ length (same_segment S records) = is.count ∙ both.0 in
    let bytes : extent.bytes ≡ length (layouts (same_segment S records)) = is.bytes ∙ both.1 in
    let front = batch_front S records in
    let kept = are.kept in
    let number = are.count in
    let long : length records ≡ length log.records - (p.flushed - log.base.records) = length-drop (p.flushed - log.base.records) log.records in
    let some = segment_some S records (omega (arith, long, pending, number, kept)) in
    let few = segment_within S records in
    let n = length (same_segment S records) in
    let parts : layouts records ≡ layouts (take n records) ++ layouts (drop n records) = ap layouts (sym (take-append-drop n records)) ∙ flat_map-append layout (take n records) (drop n records) in
    let all = ap (λ (bs : List ℕ). length bs) (are.bytes ∙ parts) ∙ length-append (layouts (take n records)) (layouts (drop n records)) in
    let here : length (layouts (same_segment S records)) ≡ length (layouts (take n records)) = ap (λ (rs : List Entry). length (layouts rs)) front in
    record {
      count = count;
      some = omega (arith, count, some);
      within = omega (arith, count, few, long, pending, number, kept);
      front = batch_bytes S records p.bytes extent.bytes are.bytes bytes ∙ ap layouts (front ∙ ap (λ m. take m records) (sym count));
      short = omega (arith, bytes, all, here);
    }

-- the first pending record, as its row tells it
pub first_of : (log : Log) (p : PendingPart) (rows : RowTable) (row : Row) → IsPendingOf log p → AreRowsOf log rows → slice_get rows.items (p.flushed - rows.first) ≡ Some row
    → (r : Entry) × (slice_get log.records (p.flushed - log.base.records) ≡ Some r) × (row.place ≡ r.offset) × (row.size ≡ size r)
first_of log p rows row are of at =
    let first = of.first in
    record_of rows.items log.records (p.flushed - log.base.records) row of.items (subst (λ n. slice_get rows.items n ≡ Some row) (ap (λ n. p.flushed - n) first) at)

-- it begins where the flushed records end, or at most a segment behind
pub first_ordered : (log : Log) (p : PendingPart) (rows : RowTable) (row : Row) → IsLawful p.segment log → IsPendingOf log p → AreRowsOf log rows → slice_get rows.items (p.flushed - rows.first) ≡ Some row
    → (p.start ≤ row.place) × (row.place ≤ p.start + p.segment)
first_ordered log p rows row lawful are of at =
    let r = first_of log p rows row are of at in
    let follows = lawful.each (p.flushed - log.base.records) r.0 r.1 in
    let end = end_of log.base (take (p.flushed - log.base.records) log.records) in
    let past = place_past p.segment end (size r.0) (let low = lawful.segment.low in omega (arith, low)) in
    let near = place_near p.segment end (size r.0) in
    let place = follows.place in
    let start = are.start in
    let same = r.2 in
    (omega (arith, past, place, start, same), omega (arith, near, place, start, same))

-- the last record of the batch
pub last_of : (log : Log) (p : PendingPart) (rows : RowTable) (count : ℕ) (row : Row) → IsPendingOf log p → AreRowsOf log rows → 0 < count
    → slice_get rows.items (((p.flushed + count) - 1) - rows.first) ≡ Some row
    → (r : Entry) × (slice_get log.records ((p.flushed - log.base.records) + (count - 1)) ≡ Some r) × (row.place ≡ r.offset) × (row.size ≡ size r)
last_of log p rows count row are of some at =
    let first = of.first in
    let kept = are.kept in
    let number : ((p.flushed + count) - 1) - rows.first ≡ (p.flushed - log.base.records) + (count - 1) = omega (arith, first, kept, some) in
    record_of rows.items log.records ((p.flushed - log.base.records) + (count - 1)) row of.items (subst (λ n. slice_get rows.items n ≡ Some row) number at)

-- it ends at 2^62 at most
pub last_low : (log : Log) (p : PendingPart) (rows : RowTable) (count : ℕ) (row : Row) → IsLawful p.segment log → IsPendingOf log p → AreRowsOf log rows → 0 < count
    → slice_get rows.items (((p.flushed + count) - 1) - rows.first) ≡ Some row → row.place + row.size ≤ 2 ^ 62
last_low log p rows count row lawful are of some at =
    let r = last_of log p rows count row are of some at in
    let follows = lawful.each ((p.flushed - log.base.records) + (count - 1)) r.0 r.1 in
    let low = follows.low in let place = r.2 in let long = r.3 in
    omega (arith, low, place, long)

-- the turn of this extent comes next
pub next_turn : (log : Log) (p : PendingPart) (rows : RowTable) (extent : Extent) (first last : Row) (blank : Option (ℕ × ℕ)) (bytes : List ℕ) (end : ℕ)
    → IsPendingOf log p → AreRowsOf log rows → p.flushed < p.count → IsExtent p.segment rows.items (p.flushed - rows.first) extent
    → slice_get rows.items (p.flushed - rows.first) ≡ Some first → slice_get rows.items (((p.flushed + extent.count) - 1) - rows.first) ≡ Some last
    → blank ≡ blank_between p.start first.place → bytes ≡ take extent.bytes p.bytes → end ≡ last.place + last.size
    → IsNextTurn log p (record { batch = record { from = p.flushed; count = extent.count; place = first.place; blank = blank; bytes = bytes }; held = p.count; end = end })
next_turn log p rows extent first last blank bytes end are of pending is at_first at_last gap front ends =
    let taken = is_taken log p rows extent are of pending is in
    let f = p.flushed - log.base.records in
    let n = extent.count in
    let kept = are.kept in
    let number = are.count in
    let some = taken.some in
    let within = taken.within in
    let r = first_of log p rows first are of at_first in
    let q = last_of log p rows n last are of some at_last in
    let batch : Batch = record { from = p.flushed; count = n; place = first.place; blank = blank; bytes = bytes } in
    let has : IsBatchOf (geometry p.segment log.base) log.records f batch = record {
      from = omega (arith, kept);
      some = some;
      within = within;
      place = λ s at. r.2 ∙ ap (λ (x : Entry). x.offset) (some_one (sym r.1 ∙ at));
      segment = λ i s low at.
          let count = taken.count in
          let zero_at : slice_get (records_from log p.flushed) 0 ≡ Some r.0 = drop_get log.records f 0 r.0 (subst (λ k. slice_get log.records k ≡ Some r.0) (let e : f ≡ f + 0 = omega arith in e) r.1) in
          segment_same p.segment (records_from log p.flushed) i r.0 s (omega (arith, low, count)) zero_at (drop_get log.records f i s at)
          ∙ ap (λ m. m / p.segment) (sym r.2);
      bytes = front ∙ taken.front;
      blank = gap ∙ ap (λ m. blank_between m first.place) are.start;
    } in
    let upto : suc (f + (n - 1)) ≡ (p.flushed + n) - log.base.records = omega (arith, some, kept) in
    let size_is = q.3 in
    let place_is = q.2 in
    let end_is = ends_with log.base log.records (f + (n - 1)) q.0 q.1 in
    let here : end_of log.base (take (suc (f + (n - 1))) log.records) ≡ place_end (below log (p.flushed + n)) = ap (λ m. end_of log.base (take m log.records)) upto in
    record {
      batch = record { is = has; longest = taken.count };
      is = record {
        batch = has;
        end = (let e : end ≡ end_of log.base (take (suc (f + (n - 1))) log.records) = omega (arith, ends, place_is, size_is, end_is) in e) ∙ here;
        held = omega (arith, within, number, kept);
        within = omega (arith, number);
      };
      held = refl;
    }
