-- What is pending of a log whose front is removed.
use Rattle.std.proofs.Common.{◌≡◌, refl, ap, sym, ◌∙◌, subst, arith, ℕ, zero, suc, ◌+◌, ◌-◌, ◌<◌, ◌≤◌, min, List, [], ◌∷◌, length, take, drop, sum_by, slice_get, Option, Some, None, IfSome}
use Rattle.std.proofs.lemmas.List.{length-take, length-drop, length-append}
use Rattle.std.proofs.lemmas.List.Sums.{sum_by-cons}
use Rattle.record_codec.specs.Entry.{Entry}
use Rattle.record_codec.specs.Layout.{size, layout}
use Rattle.record_codec.proofs.LayoutLengths.{length-layout}
use Rattle.log_model.specs.Bases.{Base, geometry}
use Rattle.log_model.specs.Batches.{IsBatchOf, blank_between}
use Rattle.log_model.specs.Log.{end_from, end_of}
use Rattle.log_model.specs.Numbered.{Log, above, below, count_of, place_end, records_from}
use Rattle.log_model.specs.Segments.{layouts}
use Rattle.pending_log.specs.declared.turn.Out.{Out}
use Rattle.pending_log.specs.Parts.{PendingPart}
use Rattle.pending_log.specs.Pending.{IsPendingOf, IsOutOf}
use Rattle.pending_log.proofs.Lists.{drop_more, get_drop}

take_none : {A : Type 0} (n : ℕ) → take n [] ≡ let none : List A = [] in none
take_none zero = refl
take_none (suc n) = refl

drop_nothing : {A : Type 0} (n : ℕ) → drop n [] ≡ let none : List A = [] in none
drop_nothing zero = refl
drop_nothing (suc n) = refl

-- a front of what is behind a front
take_behind : {A : Type 0} (xs : List A) (k n : ℕ) → take n (drop k xs) ≡ drop k (take (k + n) xs)
take_behind xs zero n = ap (λ m. take m xs) (let e : n ≡ 0 + n = omega arith in e)
take_behind [] (suc k) n = take_none n ∙ sym (ap (λ (ys : List _). drop (suc k) ys) (take_none (suc k + n)) ∙ drop_nothing (suc k))
take_behind (x ∷ xs) (suc k) n = take_behind xs k n ∙ ap (λ m. drop (suc k) (take m (x ∷ xs))) (let e : suc (k + n) ≡ suc k + n = omega arith in e)

-- records end where they did, whatever stood before them
end_tail : (a b : ℕ) (records : List Entry) (k : ℕ) → k < length records → end_from a (drop k records) ≡ end_from b records
end_tail a b [] k low = absurd (let none : ⊥ = omega (arith, low) in none)
end_tail a b (r ∷ records) zero low = refl
end_tail a b (r ∷ records) (suc k) low = end_tail a (r.offset + size r) records k (omega (arith, low))

end_above : (log : Log) (base : Base) → log.base.records ≤ base.records → base.records < count_of log → place_end (above log base) ≡ place_end log
end_above log base later low = end_tail base.place log.base.place log.records (base.records - log.base.records) (omega (arith, later, low))

end_below : (log : Log) (base : Base) (n : ℕ) → log.base.records ≤ base.records → base.records < n → n ≤ count_of log → place_end (below (above log base) n) ≡ place_end (below log n)
end_below log base n later low within =
    let k = base.records - log.base.records in
    let sum : k + (n - base.records) ≡ n - log.base.records = omega (arith, later, low) in
    let long : length (take (n - log.base.records) log.records) ≡ n - log.base.records = length-take (n - log.base.records) log.records ∙ (let e : min (n - log.base.records) (length log.records) ≡ n - log.base.records = omega (arith, within) in e) in
    ap (λ (rs : List Entry). end_of base rs) (take_behind log.records k (n - base.records) ∙ ap (λ m. drop k (take m log.records)) sum)
    ∙ end_tail base.place log.base.place (take (n - log.base.records) log.records) k (omega (arith, long, later, low))

from_above : (log : Log) (base : Base) (n : ℕ) → log.base.records ≤ base.records → base.records ≤ n → records_from (above log base) n ≡ records_from log n
from_above log base n later low =
    drop_more log.records (base.records - log.base.records) (n - base.records) ∙ ap (λ m. drop m log.records) (let e : (base.records - log.base.records) + (n - base.records) ≡ n - log.base.records = omega (arith, later, low) in e)

batch_above : (S : ℕ) (log : Log) (base : Base) (flushed : ℕ) (out : Out) → log.base.records ≤ base.records → base.records < flushed → flushed ≤ count_of log
    → IsBatchOf (geometry S log.base) log.records (flushed - log.base.records) out.batch → IsBatchOf (geometry S base) (above log base).records (flushed - base.records) out.batch
batch_above S log base flushed out later low within is =
    let k = base.records - log.base.records in
    let from = is.from in
    let all = is.within in
    let long = length-drop k log.records in
    record {
      from = omega (arith, from, later, low);
      some = is.some;
      within = omega (arith, all, long, later, low);
      place = λ first at. is.place first (subst (λ n. slice_get log.records n ≡ Some first) (let e : k + (flushed - base.records) ≡ flushed - log.base.records = omega (arith, later, low) in e) (get_drop log.records k (flushed - base.records) first at));
      segment = λ i r few at. is.segment i r few (subst (λ n. slice_get log.records n ≡ Some r) (let e : k + ((flushed - base.records) + i) ≡ (flushed - log.base.records) + i = omega (arith, later, low) in e) (get_drop log.records k ((flushed - base.records) + i) r at));
      bytes = is.bytes ∙ ap (λ (rs : List Entry). layouts (take out.batch.count rs)) (sym (from_above log base flushed later (omega (arith, low))));
      blank = is.blank ∙ ap (λ e. blank_between e out.batch.place) (sym (end_below log base flushed later low within));
    }

count_above : (log : Log) (base : Base) → log.base.records ≤ base.records → base.records ≤ count_of log → count_of (above log base) ≡ count_of log
count_above log base later low = let long = length-drop (base.records - log.base.records) log.records in omega (arith, long, later, low)

out_above : (S : ℕ) (log : Log) (base : Base) (flushed : ℕ) (out : Option Out) → log.base.records ≤ base.records → base.records < flushed → flushed ≤ count_of log
    → IfSome out (IsOutOf S log flushed) → IfSome out (IsOutOf S (above log base) flushed)
out_above S log base flushed None later low within is = is
out_above S log base flushed (Some out) later low within is =
    let held = is.held in
    let all = is.within in
    let same = count_above log base later (omega (arith, low, within)) in
    record {
      batch = batch_above S log base flushed out later low within is.batch;
      end = is.end ∙ sym (end_below log base (flushed + out.batch.count) later (omega (arith, low)) (omega (arith, held, all)));
      held = held;
      within = omega (arith, all, same);
    }

-- what is pending stays
pub pending_above : (log : Log) (base : Base) (p : PendingPart) → log.base.records ≤ base.records → base.records < p.flushed → IsPendingOf log p → IsPendingOf (above log base) p
pending_above log base p later low are =
    let within = are.within in
    let same = count_above log base later (omega (arith, low, within)) in
    record {
      kept = omega (arith, low);
      within = omega (arith, within, same);
      count = are.count ∙ sym same;
      start = are.start ∙ sym (end_below log base p.flushed later low within);
      end = are.end ∙ sym (end_above log base later (omega (arith, low, within)));
      bytes = are.bytes ∙ ap layouts (sym (from_above log base p.flushed later (omega (arith, low))));
      out = out_above p.segment log base p.flushed p.out later low within are.out;
    }

-- layouts have as many bytes as the sizes say
pub layouts_size : (records : List Entry) → length (layouts records) ≡ sum_by size records
layouts_size [] = refl
layouts_size (r ∷ records) =
    length-append (layout r) (layouts records) ∙ (ap (λ n. n + length (layouts records)) (length-layout r) ∙ (ap (λ n. size r + n) (layouts_size records) ∙ sym (sum_by-cons size r records)))
