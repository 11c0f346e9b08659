-- A batch goes to the segment where the flushed records end, or with a blank before it to the next one.
use Rattle.std.proofs.Common.{◌≡◌, ◌⊎◌, inl, inr, ⊎_elim, ℕ, ◌+◌, ◌-◌, ◌*◌, ◌/◌, ◌<◌, true, false, List, take, slice_get, Some, None, refl, sym, ◌∙◌, ap, arith, eq-eqb, ne_eqb}
use Rattle.std.proofs.lemmas.Bool.{cases_Bool, cond-true, cond-false}
use Rattle.std.proofs.lemmas.Nat.{div-mul-add}
use Rattle.std.proofs.Math.Nat.{lt-div-mul-add}
use Rattle.record_codec.specs.Entry.{Entry}
use Rattle.record_codec.specs.Layout.{size}
use Rattle.log_model.specs.Bases.{Geometry}
use Rattle.log_model.specs.declared.batch.Batch.{Batch}
use Rattle.log_model.specs.Log.{fits, end_of, IsWellFormed}
use Rattle.log_model.specs.Segments.{Shape, opened, used, segment_start, end_in, shape_of, next_segment}
use Rattle.log_model.specs.Store.{IsLaid, IsBatch}
use Rattle.log_model.specs.Batches.{blank_between, IsBatchOf}
use Rattle.log_model.proofs.Lists.{get_within}
use Rattle.log_model.proofs.Places.{placed_log, well_formed_take, place_here, place_next}
use Rattle.log_model.proofs.Prefixes.{batch_rule}

-- the batch lies in the last segment of the flushed records, and no blank comes before it
pub record GoesHere (S : Geometry) (log : List Entry) (flushed : ℕ) (batch : Batch) : Type 0 where
  pub blank : batch.blank ≡ None
  pub place : batch.place ≡ end_in S (shape_of S (take flushed log))
  pub is : IsBatch S log flushed batch.count (shape_of S (take flushed log)) batch.bytes

-- the batch begins the next segment, and a blank fills the last one
pub record GoesNext (S : Geometry) (log : List Entry) (flushed : ℕ) (batch : Batch) : Type 0 where
  pub blank : batch.blank ≡ Some (end_in S (shape_of S (take flushed log)), S.size - used (shape_of S (take flushed log)))
  pub place : batch.place ≡ segment_start S (opened (shape_of S (take flushed log)))
  pub is : IsBatch S log flushed batch.count (opened (shape_of S (take flushed log))) batch.bytes

no_blank : (end place : ℕ) → place ≡ end → blank_between end place ≡ None
no_blank end place is = cond-true _ None _ (eq-eqb end place (sym is))

some_blank : (end place n : ℕ) → place ≡ end + n → 0 < n → blank_between end place ≡ Some (end, n)
some_blank end place n is some =
    let left : place - end ≡ n = omega (arith, is) in
    cond-false _ None _ (ne_eqb end place (λ same. omega (arith, same, is, some))) ∙ ap (λ (m : ℕ). Some (end, m)) left

is_batch : (S : Geometry) (log : List Entry) (flushed : ℕ) (batch : Batch) (shape : Shape) (first : Entry) → IsWellFormed S log → IsLaid S (take flushed log) shape
    → IsBatchOf S log flushed batch → slice_get log flushed ≡ Some first → batch.place ≡ first.offset → first.offset ≡ end_in S shape → used shape < S.size → IsBatch S log flushed batch.count shape batch.bytes
is_batch S log flushed batch shape first well laid is got place here small =
    let number : batch.place / S.size ≡ next_segment S shape.older = ap (λ (n : ℕ). n / S.size) (place ∙ here) ∙ div-mul-add (next_segment S shape.older) S.size (used shape) small in
    record {
      within = is.within;
      bytes = is.bytes;
      rule = batch_rule S log flushed batch.count shape first well laid is.within is.some got (omega (arith, here))
          (λ i r low there.
          let same : r.offset / S.size * S.size ≡ segment_start S shape = ap (λ (n : ℕ). n * S.size) (is.segment i r low there ∙ number) in
          omega (arith, same, lt-div-mul-add {a = r.offset} {b = S.size} (omega (arith, small))));
    }

pub batch_goes : (S : Geometry) (log : List Entry) (flushed : ℕ) (batch : Batch) → IsWellFormed S log → IsBatchOf S log flushed batch
    → GoesHere S log flushed batch ⊎ GoesNext S log flushed batch
batch_goes S log flushed batch well is =
    let front : List Entry = take flushed log in
    let shape : Shape = shape_of S front in
    let placed = placed_log S front (well_formed_take S flushed log well) in
    let got = get_within log flushed (omega (arith, is.some, is.within)) in
    let first : Entry = got.0 in
    let place : batch.place ≡ first.offset = is.place first got.1 in
    let follows = well.each flushed first got.1 in
    ⊎_elim
    (λ (fit : fits S.size (used shape) (size first) ≡ true).
    let here : first.offset ≡ end_in S shape = place_here S front shape first placed follows fit in
    inl (record {
      blank = is.blank ∙ no_blank (end_of S.base front) batch.place (place ∙ here ∙ sym placed.end);
      place = place ∙ here;
      is = is_batch S log flushed batch shape first well (inl refl) is got.1 place here (omega (arith, placed.room));
    }))
    (λ (full : fits S.size (used shape) (size first) ≡ false).
    let next : first.offset ≡ end_in S (opened shape) = place_next S front shape first placed follows full in
    inr (record {
      blank = is.blank ∙ some_blank (end_of S.base front) batch.place (S.size - used shape) (omega (arith, place, next, placed.end, placed.room)) (omega (arith, placed.room))
          ∙ ap (λ (n : ℕ). Some (n, S.size - used shape)) placed.end;
      place = omega (arith, place, next);
      is = is_batch S log flushed batch (opened shape) first well (inr refl) is got.1 place next (omega (arith, well.segment.low));
    }))
    (cases_Bool (fits S.size (used shape) (size first)))
