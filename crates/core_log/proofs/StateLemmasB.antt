-- A state with one record more is a state.
use Rattle.std.proofs.Common.{◌||◌, ◌≡◌, ◌⊎◌, ⊎_elim, inl, inr, refl, ap, sym, subst, arith, ℕ, zero, suc, ◌+◌, ◌^◌, ◌<◌, ◌≤◌, List, [], ◌∷◌, ◌++◌, length, take, slice_get, Option, Some, None}
use Rattle.std.proofs.lemmas.List.{length-append, take-append-le}
use Rattle.record_codec.specs.Entry.{Entry}
use Rattle.record_codec.specs.Layout.{IsRecord}
use Rattle.record_codec.specs.Drafts.{entry_of}
use Rattle.record_codec.specs.declared.draft.Draft.{Draft}
use Rattle.record_codec.specs.declared.draft.Place.{Place}
use Rattle.log_model.specs.Bases.{Base, geometry}
use Rattle.log_model.specs.Log.{end_from, Follows}
use Rattle.log_model.specs.Numbered.{Log, count_of, place_end, with_appended}
use Rattle.log_model.proofs.Places.{end_of-append}
use Rattle.log_model.proofs.Recovery.{well_formed_push}
use Rattle.broker_model.specs.State.{State, Out}
use Rattle.broker_model.specs.Step.{with_records}
use Rattle.broker_model.specs.Lawful.{IsState, IsTurn, IfOut}
use Rattle.broker_model.specs.Removal.{IsCutAt, IsBaseAfter, is_named, has_queue}
use Rattle.core_log.specs.Appends.{MayStand}

pub get_push : {A : Type 0} (xs : List A) (x y : A) (k : ℕ) → slice_get (xs ++ x ∷ []) k ≡ Some y → (slice_get xs k ≡ Some y) ⊎ ((k ≡ length xs) × (y ≡ x))
get_push [] x y zero e = inr (refl, cc e)
get_push [] x y (suc k) e = cc e
get_push (z ∷ xs) x y zero e = inl e
get_push (z ∷ xs) x y (suc k) e = ⊎_elim (λ old. inl old) (λ (new : (k ≡ length xs) × (y ≡ x)). inr (let n : suc k ≡ length (z ∷ xs) = omega (arith, new.0) in n, new.1)) (get_push xs x y k e)

-- the log has one record more
pub count_with : (log : Log) (r : Entry) → count_of (with_appended log (r ∷ [])) ≡ count_of log + 1
count_with log r = let long = length-append log.records (r ∷ []) in omega (arith, long)

-- the record follows the log
pub follows : (s : State) (d : Draft) (p : Place) → IsState s → MayStand s d p → IsRecord (entry_of d p) → Follows (geometry s.setup.segment s.log.base) s.log.records (entry_of d p)
follows s d p is may layout = record {
  layout = layout;
  place = may.next.offset;
  room = may.room;
  low = may.low;
  queue_offset = may.next.queue_offset;
  store = λ k earlier at. let low = is.now k earlier at in let later = may.next.store in omega (arith, low, later);
  admissible = may.admissible;
  names = may.names;
}

-- a cut of the log is one of a longer log
cut_longer : (segment : ℕ) (log : Log) (n : ℕ) (base : Base) (r : Entry) → place_end log ≤ r.offset → IsCutAt segment log n base → IsCutAt segment (with_appended log (r ∷ [])) n base
cut_longer segment log n base r past cut =
    let front : take n (log.records ++ r ∷ []) ≡ take n log.records = take-append-le n log.records (r ∷ []) cut.long in
    let more = length-append log.records (r ∷ []) in
    let long = cut.long in
    let within = cut.within in
    let end = end_of-append log.base log.records r in
    record {
      long = omega (arith, long, more);
      counts = subst (λ (rs : List Entry). IsBaseAfter log.base rs base) (sym front) cut.counts;
      named = λ topic queue. subst (λ (rs : List Entry). is_named base topic queue ≡ (is_named log.base topic queue || has_queue rs topic queue)) (sym front) (cut.named topic queue);
      begins = cut.begins;
      behind = subst (λ (rs : List Entry). end_from log.base.place rs ≤ base.place) (sym front) cut.behind;
      before = λ q at. ⊎_elim (λ (old : slice_get log.records n ≡ Some q). cut.before q old)
          (λ (new : (n ≡ length log.records) × (q ≡ r)). subst (λ (e : Entry). base.place ≤ e.offset) (sym new.1) (omega (arith, within, past)))
          (get_push log.records r q n at);
      within = omega (arith, within, past, end);
    }

-- a turn that is out stays one
out_longer : (s : State) (now : ℕ) (r : Entry) (out : Option Out) → IfOut out (IsTurn s) → IfOut out (IsTurn (with_records s now (r ∷ [])))
out_longer s now r None is = is
out_longer s now r (Some out) is =
    let more = count_with s.log r in
    let held = is.held in
    record { some = is.some; few = is.few; held = omega (arith, held, more); grows = is.grows }

-- the state with a record that follows its log
pub state_with : (s : State) (now : ℕ) (r : Entry) → IsState s → Follows (geometry s.setup.segment s.log.base) s.log.records r → place_end s.log ≤ r.offset → s.now ≤ now → now < 2 ^ 62 → r.store ≤ now
    → IsState (with_records s now (r ∷ []))
state_with s now r is after past later time store =
    let more = count_with s.log r in
    let flushed = is.flushed in
    record {
      log = well_formed_push (geometry s.setup.segment s.log.base) s.log.records r is.log after;
      base = is.base;
      dispatched = is.dispatched;
      flushed = omega (arith, flushed, more);
      out = out_longer s now r s.out is.out;
      now = λ k q at. ⊎_elim (λ (old : slice_get s.log.records k ≡ Some q). let low = is.now k q old in omega (arith, low, later))
          (λ (new : (k ≡ length s.log.records) × (q ≡ r)). let same = ap (λ (e : Entry). e.store) new.1 in omega (arith, same, store)) (get_push s.log.records r q k at);
      saved = record { ahead = is.saved.ahead; cut = cut_longer s.setup.segment s.log is.saved.ahead s.saved.base r past is.saved.cut; dispatched = is.saved.dispatched };
      failed = λ k d h. let f = is.failed k d h in let held = f.held in record { from = f.from; held = omega (arith, held, more); turn = f.turn };
      host = is.host;
      time = time;
      topics = is.topics;
      order = is.order;
    }
