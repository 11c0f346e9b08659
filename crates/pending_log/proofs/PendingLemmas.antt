-- What is pending of a log, when a record is appended and when a turn ends.
use Rattle.std.proofs.Common.{◌≡◌, ap, sym, ◌∙◌, subst, arith, ℕ, ◌+◌, ◌-◌, ◌^◌, ◌≤◌, List, [], ◌∷◌, ◌++◌, length, take, drop, min, Option, Some, None, IfSome}
use Rattle.std.proofs.lemmas.List.{length-append, take-append-le, drop-append-le, take-append-drop, length-drop}
use Rattle.std.proofs.Math.Seq.{drop-append_seam}
use Rattle.std.proofs.lemmas.Grind.{flat_map-append}
use Rattle.record_codec.specs.Entry.{Entry}
use Rattle.record_codec.specs.Layout.{size, layout}
use Rattle.log_model.specs.Bases.{geometry}
use Rattle.log_model.specs.Batches.{IsBatchOf, blank_between}
use Rattle.log_model.specs.Log.{end_of}
use Rattle.log_model.specs.Numbered.{Log, records_from, with_appended}
use Rattle.log_model.specs.Segments.{layouts}
use Rattle.log_model.proofs.Places.{layouts_push, end_of-append}
use Rattle.pending_log.specs.declared.turn.Out.{Out}
use Rattle.record_codec.proofs.LayoutLengths.{length-layout}
use Rattle.log_model.specs.Log.{place_after}
use Rattle.log_model.specs.declared.batch.Batch.{Batch}
use Rattle.log_model.specs.declared.batch.Receipt.{Receipt}
use Rattle.pending_log.specs.Parts.{PendingPart, IsBounded, appended}
use Rattle.log_model.specs.Batches.{IsReceiptFor}
use Rattle.pending_log.specs.Pending.{IsPendingOf, IsOutOf, IsReceiptOf, HasTaken, with_flushed, with_failed}
use Rattle.pending_log.proofs.Lists.{get_more, drop_more}
use Rattle.pending_log.proofs.LogLemmas.{place_past}

-- ---- one record more

batch_appended : (S : ℕ) (log : Log) (f : ℕ) (out : Out) (r : Entry) → IsBatchOf (geometry S log.base) log.records f out.batch → IsBatchOf (geometry S log.base) (log.records ++ r ∷ []) f out.batch
batch_appended S log f out r is =
    let more = length-append log.records (r ∷ []) in
    let front : f ≤ length log.records = let some = is.some in let within = is.within in omega (arith, some, within) in
    record {
      from = is.from;
      some = is.some;
      within = let within = is.within in omega (arith, within, more);
      place = λ first at. is.place first (sym (get_more log.records (r ∷ []) f (let some = is.some in let within = is.within in omega (arith, some, within))) ∙ at);
      segment = λ i q low at. is.segment i q low (sym (get_more log.records (r ∷ []) (f + i) (let within = is.within in omega (arith, low, within))) ∙ at);
      bytes = is.bytes ∙ sym (ap (λ (rs : List Entry). layouts (take out.batch.count rs)) (drop-append-le f log.records (r ∷ []) front)
          ∙ ap layouts (take-append-le out.batch.count (drop f log.records) (r ∷ []) (let within = is.within in let long = length-drop f log.records in omega (arith, within, long))));
      blank = is.blank ∙ ap (λ (rs : List Entry). blank_between (end_of log.base rs) out.batch.place) (sym (take-append-le f log.records (r ∷ []) front));
    }

out_appended : (S : ℕ) (log : Log) (flushed : ℕ) (r : Entry) (out : Option Out) → log.base.records ≤ flushed → IfSome out (IsOutOf S log flushed) → IfSome out (IsOutOf S (with_appended log (r ∷ [])) flushed)
out_appended S log flushed r None kept is = is
out_appended S log flushed r (Some out) kept is =
    let more = length-append log.records (r ∷ []) in
    let n = (flushed + out.batch.count) - log.base.records in
    let within = is.within in
    let held = is.held in
    record {
      batch = batch_appended S log (flushed - log.base.records) out r is.batch;
      end = is.end ∙ ap (λ (rs : List Entry). end_of log.base rs) (sym (take-append-le n log.records (r ∷ []) (omega (arith, within, held))));
      held = held;
      within = omega (arith, within, more);
    }

pub pending_appended : (log : Log) (p : PendingPart) (r : Entry) → IsPendingOf log p → IsPendingOf (with_appended log (r ∷ [])) (appended p r)
pending_appended log p r are =
    let more = length-append log.records (r ∷ []) in
    let f = p.flushed - log.base.records in
    let within = are.within in
    let count = are.count in
    let front : f ≤ length log.records = omega (arith, within) in
    record {
      kept = are.kept;
      within = omega (arith, within, more);
      count = omega (arith, count, more);
      start = are.start ∙ ap (λ (rs : List Entry). end_of log.base rs) (sym (take-append-le f log.records (r ∷ []) front));
      end = sym (end_of-append log.base log.records r);
      bytes = ap (λ bytes. bytes ++ layout r) are.bytes ∙ sym (ap layouts (drop-append-le f log.records (r ∷ []) front) ∙ layouts_push (drop f log.records) r);
      out = out_appended p.segment log p.flushed r p.out are.kept are.out;
    }

-- ---- the end of a turn

-- the bytes of the batch, and those behind them
bytes_parted : (log : Log) (p : PendingPart) (count : ℕ) → p.bytes ≡ layouts (records_from log p.flushed)
    → p.bytes ≡ layouts (take count (records_from log p.flushed)) ++ layouts (drop count (records_from log p.flushed))
bytes_parted log p count are =
    are ∙ (ap layouts (sym (take-append-drop count (records_from log p.flushed))) ∙ flat_map-append layout (take count (records_from log p.flushed)) (drop count (records_from log p.flushed)))

-- the batch that is out is no longer than what is pending
pub out_short : (log : Log) (p : PendingPart) (out : Out) → IsPendingOf log p → p.out ≡ Some out → length out.batch.bytes ≤ length p.bytes
out_short log p out are is =
    let o : IsOutOf p.segment log p.flushed out = subst (λ (x : Option Out). IfSome x (IsOutOf p.segment log p.flushed)) is are.out in
    let parts = bytes_parted log p out.batch.count are.bytes in
    let long = ap (λ (bs : List ℕ). length bs) parts ∙ length-append (layouts (take out.batch.count (records_from log p.flushed))) (layouts (drop out.batch.count (records_from log p.flushed))) in
    let same = ap (λ (bs : List ℕ). length bs) o.batch.bytes in
    omega (arith, long, same)

-- nor has it more records
pub out_within : (log : Log) (p : PendingPart) (out : Out) → IsPendingOf log p → p.out ≡ Some out → p.flushed + out.batch.count ≤ p.count
out_within log p out are is =
    let o : IsOutOf p.segment log p.flushed out = subst (λ (x : Option Out). IfSome x (IsOutOf p.segment log p.flushed)) is are.out in
    let held = o.held in let within = o.within in let count = are.count in omega (arith, held, within, count)

pub pending_flushed : (log : Log) (p : PendingPart) (out : Out) → IsPendingOf log p → p.out ≡ Some out → IsPendingOf log (with_flushed p (Some out))
pending_flushed log p out are is =
    let o : IsOutOf p.segment log p.flushed out = subst (λ (x : Option Out). IfSome x (IsOutOf p.segment log p.flushed)) is are.out in
    let f = p.flushed - log.base.records in
    let n = out.batch.count in
    let kept = are.kept in
    let held = o.held in
    let within = o.within in
    let parts = bytes_parted log p n are.bytes in
    let front : length out.batch.bytes ≡ length (layouts (take n (records_from log p.flushed))) = ap (λ (bs : List ℕ). length bs) o.batch.bytes in
    let number : f + n ≡ (p.flushed + n) - log.base.records = omega (arith, kept) in
    record {
      kept = omega (arith, kept);
      within = omega (arith, held, within);
      count = are.count;
      start = o.end;
      end = are.end;
      bytes = ap (λ (bs : List ℕ). drop (length out.batch.bytes) bs) parts
          ∙ (ap (λ m. drop m (layouts (take n (records_from log p.flushed)) ++ layouts (drop n (records_from log p.flushed)))) front
          ∙ (drop-append_seam (layouts (take n (records_from log p.flushed))) (layouts (drop n (records_from log p.flushed)))
          ∙ ap layouts (drop_more log.records f n ∙ ap (λ m. drop m log.records) number)));
      out = tt;
    }

pub pending_failed : (log : Log) (p : PendingPart) (count : ℕ) (out : Out) → IsPendingOf log p → IsPendingOf log (with_failed p count (Some out))
pending_failed log p count out are = record { kept = are.kept; within = are.within; count = are.count; start = are.start; end = are.end; bytes = are.bytes; out = tt }

-- the part as the code leaves it when a turn has ended
pub flushed_log : (log : Log) (p : PendingPart) (out : Out) (count : ℕ) (bytes : List ℕ) (none : Option Out) → IsPendingOf log p → p.out ≡ Some out
    → count ≡ out.batch.count → bytes ≡ drop (length out.batch.bytes) p.bytes → none ≡ None
    → IsPendingOf log (record p { flushed = p.flushed + count; start = out.end; bytes = bytes; out = none })
flushed_log log p out count bytes none are is number rest empty =
    subst (λ (n : ℕ). IsPendingOf log (record p { flushed = p.flushed + n; start = out.end; bytes = bytes; out = none })) (sym number)
    (subst (λ (bs : List ℕ). IsPendingOf log (record p { flushed = p.flushed + out.batch.count; start = out.end; bytes = bs; out = none })) (sym rest)
    (subst (λ (o : Option Out). IsPendingOf log (record p { flushed = p.flushed + out.batch.count; start = out.end; bytes = drop (length out.batch.bytes) p.bytes; out = o })) (sym empty)
    (pending_flushed log p out are is)))

-- the receipt is of the batch that is out
pub receipt_count : (o : Option Out) (out : Out) (receipt : Receipt) → o ≡ Some out → IsReceiptOf o receipt → receipt.count ≡ out.batch.count
receipt_count o out receipt is of = let same : IsReceiptFor out.batch receipt = subst (λ (x : Option Out). IsReceiptOf x receipt) is of in same.count

-- the part as the code leaves it when it has taken a turn
pub has_taken : (p : PendingPart) (batch : Batch) (out : Out) (turns : ℕ) → batch ≡ out.batch → out.held ≡ p.count → turns ≡ min (p.turns + 1) (2 ^ 64 - 1)
    → HasTaken p batch (record p { out = Some (record { batch = out.batch; held = out.held; end = out.end }); turns = turns })
has_taken p batch out turns same held next = record {
  end = out.end;
  is = ap (λ (b : Batch). record p { out = Some (record { batch = b; held = out.held; end = out.end }); turns = turns }) (sym same)
      ∙ (ap (λ (n : ℕ). record p { out = Some (record { batch = batch; held = n; end = out.end }); turns = turns }) held
      ∙ ap (λ (n : ℕ). record p { out = Some (record { batch = batch; held = p.count; end = out.end }); turns = n }) next);
}

-- ---- the bytes of one record more

pub grown_by : (before after : List ℕ) (r : Entry) → after ≡ before ++ layout r → length after ≡ length before + size r
grown_by before after r is =
    let long = ap (λ (bs : List ℕ). length bs) is ∙ length-append before (layout r) in
    let same = length-layout r in
    omega (arith, long, same)

pub bounded_appended : (p : PendingPart) (r : Entry) (bytes : List ℕ) (end : ℕ) → IsBounded p → r.offset ≡ place_after p.segment p.end (size r) → r.offset + size r ≤ 2 ^ 62
    → length p.bytes + size r ≤ 67108864 → bytes ≡ p.bytes ++ layout r → end ≡ r.offset + size r → IsBounded (record p { count = p.count + 1; end = end; bytes = bytes })
bounded_appended p r bytes end is place low room grown ends =
    let past = place_past p.segment p.end (size r) is.some in
    let few = is.few in
    let ordered = is.ordered in
    let long = grown_by p.bytes bytes r grown in
    record {
      some = is.some;
      segment = is.segment;
      ordered = omega (arith, ordered);
      few = omega (arith, few, past, place, ends);
      low = omega (arith, low, ends);
      short = omega (arith, long, room);
    }

pub appended_is : (p : PendingPart) (r : Entry) (bytes : List ℕ) (end : ℕ) → bytes ≡ p.bytes ++ layout r → end ≡ r.offset + size r
    → record p { count = p.count + 1; end = end; bytes = bytes } ≡ appended p r
appended_is p r bytes end grown ends =
    ap (λ (bs : List ℕ). record p { count = p.count + 1; end = end; bytes = bs }) grown
    ∙ ap (λ (n : ℕ). record p { count = p.count + 1; end = n; bytes = p.bytes ++ layout r }) ends
