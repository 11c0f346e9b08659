-- The tail behind one record more.
use Rattle.std.proofs.Common.{◌≡◌, ◌⊎◌, inl, inr, ⊎_elim, ◌∙◌, ℕ, zero, suc, ◌+◌, ◌≤◌, ◌++◌, List, [], ◌∷◌, length, slice_get, Some, refl, ap, sym, arith}
use Rattle.std.proofs.lemmas.List.{length_push}
use Rattle.std.proofs.lemmas.Option.{same_Some}
use Rattle.record_codec.specs.Entry.{Entry}
use Rattle.record_codec.specs.Layout.{size}
use Rattle.log_model.specs.Bases.{Base}
use Rattle.log_model.specs.Queues.{queue_end}
use Rattle.log_model.proofs.Places.{end_of-append}
use Rattle.log_recovery.specs.Counts.{count_in}
use Rattle.log_recovery.specs.Tails.{store_from, last_store, StandsFor}
use Rattle.log_recovery.specs.declared.tail.LogTail.{LogTail}

-- what stands in a longer list stands in the list, or is the last
pub got_push : {A : Type 0} (log : List A) (r : A) (k : ℕ) (s : A) → slice_get (log ++ r ∷ []) k ≡ Some s → (slice_get log k ≡ Some s) ⊎ ((k ≡ length log) × (r ≡ s))
got_push [] r zero s got = inr (refl, same_Some r s got)
got_push [] r (suc k) s got = absurd (cc)
got_push (x ∷ log) r zero s got = inl got
got_push (x ∷ log) r (suc k) s got = ⊎_elim
    (λ (inside : slice_get log k ≡ Some s). inl inside)
    (λ (last : (k ≡ length log) × (r ≡ s)). inr (ap suc last.0, last.1))
    (got_push log r k s got)

-- the last of a longer list
pub get_push : {A : Type 0} (log : List A) (r : A) → slice_get (log ++ r ∷ []) (length log) ≡ Some r
get_push [] r = refl
get_push (x ∷ log) r = get_push log r

store_from-append : (now : ℕ) (log : List Entry) (r : Entry) → store_from now (log ++ r ∷ []) ≡ r.store
store_from-append now [] r = refl
store_from-append now (x ∷ log) r = store_from-append x.store log r

-- The tail that a record moves on stands for the log with it.
pub stands_more : (base : Base) (old new : LogTail) (log : List Entry) (r : Entry) → StandsFor base old log → new.end ≡ r.offset + size r → new.records ≡ old.records + 1
    → new.stored ≡ r.store → old.stored ≤ r.store
    → ((topic : List ℕ) (queue : ℕ) → count_in new.counts topic queue ≡ queue_end base (log ++ r ∷ []) topic queue) → StandsFor base new (log ++ r ∷ [])
stands_more base old new log r stands end records time later counts = record {
  end = end ∙ sym (end_of-append base log r);
  records = omega (arith, records, stands.records, length_push log r);
  time = time ∙ sym (store_from-append 0 log r);
  latest = λ k s got. ⊎_elim
      (λ (inside : slice_get log k ≡ Some s). omega (arith, stands.latest k s inside, time, later))
      (λ (last : (k ≡ length log) × (r ≡ s)). omega (arith, time, ap (λ (e : Entry). e.store) last.1))
      (got_push log r k s got);
  counts = counts;
}

-- the same end, number and time, and the same counts
pub stands_same : (base : Base) (old new : LogTail) (log : List Entry) → StandsFor base old log → new.end ≡ old.end → new.records ≡ old.records → new.stored ≡ old.stored
    → ((topic : List ℕ) (queue : ℕ) → count_in new.counts topic queue ≡ count_in old.counts topic queue) → StandsFor base new log
stands_same base old new log stands end records time counts = record {
  end = end ∙ stands.end;
  records = records ∙ stands.records;
  time = time ∙ stands.time;
  latest = λ k s got. omega (arith, stands.latest k s got, time);
  counts = λ topic queue. counts topic queue ∙ stands.counts topic queue;
}

store_from_low : (now bound : ℕ) (log : List Entry) → now ≤ bound → ((k : ℕ) (r : Entry) → slice_get log k ≡ Some r → r.store ≤ bound) → store_from now log ≤ bound
store_from_low now bound [] low each = low
store_from_low now bound (r ∷ log) low each = store_from_low r.store bound log (each zero r refl) (λ k s got. each (suc k) s got)

-- the last store time is one of the records', or 0
pub last_store_low : (bound : ℕ) (log : List Entry) → ((k : ℕ) (r : Entry) → slice_get log k ≡ Some r → r.store ≤ bound) → last_store log ≤ bound
last_store_low bound log each = store_from_low 0 bound log (omega arith) each
