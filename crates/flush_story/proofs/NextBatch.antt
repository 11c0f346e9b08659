-- The batch that a turn takes: the longest front of the pending records that lies in one segment.
use Rattle.std.proofs.Common.{◌≡◌, refl, ap, sym, ◌∙◌, subst, arith, ℕ, zero, suc, ◌+◌, ◌-◌, ◌/◌, ◌<◌, ◌≤◌, ◌==◌, cond, Bool, true, false, List, [], ◌∷◌, ◌++◌, length, take, drop, slice_get, Option, Some, None, length-append}
use Rattle.std.specs.List.{prefix_len, take_while}
use Rattle.std.proofs.lemmas.Bool.{eq-eqb, eqb-true}
use Rattle.std.proofs.lemmas.List.{length-drop, drop-append-le}
use Rattle.std.proofs.lemmas.List.Folds.{length-prefix_len}
use Rattle.std.proofs.lemmas.List.Sums.{prefix_len-le-length, take_while-cons}
use Rattle.record_codec.specs.Entry.{Entry}
use Rattle.record_codec.specs.Layout.{layout}
use Rattle.log_model.specs.Batches.{IsBatchOf, blank_between}
use Rattle.log_model.specs.Numbered.{below, place_end}
use Rattle.log_model.specs.Segments.{layouts}
use Rattle.log_model.specs.declared.batch.Batch.{Batch}
use Rattle.log_model.proofs.Lists.{get_within, drop_got}
use Rattle.broker_model.specs.State.{State, Out, next_batch, same_segment}
use Rattle.broker_model.specs.Events as events
use Rattle.broker_model.specs.Answers.{taken, taken_of, answer_of, carried_out_answer}
use Rattle.broker_model.specs.Appended.{is_refused, drafts_of}
use Rattle.broker_events.specs.declared.event.Event.TheVariants.{Take}
use Rattle.broker_events.specs.declared.said.Said.TheVariants as said
use Rattle.broker_model.specs.Step.{Step}
use Rattle.broker_events.specs.Steps.{AreBatchesFor, SaysIn, event_of}
use Rattle.flush_story.specs.Story.{StepsAs}
use Rattle.flush_story.specs.Keeping.{flushed_in, geometry_of, Grows}

-- ---- fronts that pass a test

front_passes : {A : Type 0} (p : A → Bool) (xs : List A) (k : ℕ) (x : A) → k < prefix_len p xs → slice_get xs k ≡ Some x → p x ≡ true
front_passes p [] k x low at = absurd (cc)
front_passes p (y ∷ xs) zero x low at =
    (elim (p y) as (λ b. p y ≡ b → 0 < cond b (1 + prefix_len p xs) 0 → p x ≡ true) [
      | true ↦ λ e more. let same : y ≡ x = cc in ap p (sym same) ∙ e
      | false ↦ λ e more. absurd (let none : ⊥ = omega (arith, more) in none)
    ]) refl low
front_passes p (y ∷ xs) (suc k) x low at =
    (elim (p y) as (λ b. suc k < cond b (1 + prefix_len p xs) 0 → p x ≡ true) [
      | true ↦ λ more. front_passes p xs k x (omega (arith, more)) at
      | false ↦ λ more. absurd (let none : ⊥ = omega (arith, more) in none)
    ]) low

-- a longer list has no shorter front
while_longer : (p : Entry → Bool) (xs more : List Entry) → length (layouts (take_while p xs)) ≤ length (layouts (take_while p (xs ++ more)))
while_longer p [] more = omega arith
while_longer p (x ∷ xs) more =
    let rest = while_longer p xs more in
    let one = ap (λ (rs : List Entry). length (layouts rs)) (take_while-cons p x xs) in
    let all = ap (λ (rs : List Entry). length (layouts rs)) (take_while-cons p x (xs ++ more)) in
    let both : length (layouts (cond (p x) (x ∷ take_while p xs) [])) ≤ length (layouts (cond (p x) (x ∷ take_while p (xs ++ more)) [])) =
    elim (p x) as (λ b. length (layouts (cond b (x ∷ take_while p xs) [])) ≤ length (layouts (cond b (x ∷ take_while p (xs ++ more)) []))) [
      | true ↦ omega (arith, rest, length-append (layout x) (layouts (take_while p xs)), length-append (layout x) (layouts (take_while p (xs ++ more))))
      | false ↦ omega arith
    ] in
    omega (arith, one, all, both)

segment_longer : (S : ℕ) (xs more : List Entry) → length (layouts (same_segment S xs)) ≤ length (layouts (same_segment S (xs ++ more)))
segment_longer S [] more = omega arith
segment_longer S (r ∷ xs) more = while_longer (λ other. other.offset / S == r.offset / S) (r ∷ xs) more

-- the next batch of a log that grew has no fewer bytes
pub next_longer : (s t : State) → Grows s t → t.flushed ≡ s.flushed → flushed_in s ≤ length s.log.records → length (layouts (next_batch s)) ≤ length (layouts (next_batch t))
next_longer s t grows flushed within =
    let rest : List Entry = drop (flushed_in s) s.log.records in
    let same : next_batch t ≡ same_segment s.setup.segment (drop (flushed_in s) (s.log.records ++ grows.more)) =
    λ i. same_segment ((grows.setup i).segment) (drop (flushed i - (grows.log i).base.records) ((grows.log i).records)) in
    let split : drop (flushed_in s) (s.log.records ++ grows.more) ≡ rest ++ grows.more = drop-append-le (flushed_in s) s.log.records grows.more within in
    let long : length (layouts (next_batch t)) ≡ length (layouts (same_segment s.setup.segment (rest ++ grows.more))) =
    ap (λ (rs : List Entry). length (layouts rs)) (same ∙ ap (same_segment s.setup.segment) split) in
    omega (arith, long, segment_longer s.setup.segment rest grows.more)

-- ---- what is taken

-- the batch has these records, from the first pending one on
record Has (s : State) (records : List Entry) (batch : Batch) : Type 0 where
  from : batch.from ≡ s.flushed
  some : 0 < length records
  count : batch.count ≡ length records
  place : (first : Entry) → slice_get records 0 ≡ Some first → batch.place ≡ first.offset
  bytes : batch.bytes ≡ layouts records
  blank : batch.blank ≡ blank_between (place_end (below s.log s.flushed)) batch.place

taken_has : (s : State) (o : Option Out) (records : List Entry) (batch : Batch) (t : Option events.Taken) → t ≡ taken_of s o records → AreBatchesFor (Some batch) t → Has s records batch
taken_has s o records batch None is are = absurd are
taken_has s (Some out) records batch (Some t) is are = absurd (cc)
taken_has s None [] batch (Some t) is are = absurd (cc)
taken_has s None (r ∷ records) batch (Some t) is are =
    let same : t ≡ record { from = s.flushed; records = r ∷ records; blank = blank_between (place_end (below s.log s.flushed)) r.offset } = cc in
    let has = subst (λ (u : events.Taken). AreBatchesFor (Some batch) (Some u)) same are in
    record {
      from = has.from;
      some = omega arith;
      count = has.count;
      place = λ first at. let here : r ≡ first = cc in has.place ∙ ap (λ (x : Entry). x.offset) here;
      bytes = has.bytes;
      blank = has.blank ∙ ap (blank_between (place_end (below s.log s.flushed))) (sym has.place);
    }

-- a turn that begins is answered with the batch
take_answer : (s : State) → answer_of s events.Take ≡ events.Batch (taken s)
unfolding answer_of carried_out_answer is_refused drafts_of
take_answer s = refl

answered : (s t : State) (batch : Batch) (answer : Option events.Answer) → SaysIn (Some (said.Batch (Some batch))) answer → Step s (event_of Take) answer t → Has s (next_batch s) batch
answered s t batch None says step = absurd says
answered s t batch (Some answer) says step =
    let told : events.Batch says.0 ≡ events.Batch (taken s) = sym says.1 ∙ step.1 ∙ take_answer s in
    let same : says.0 ≡ taken s = cc in
    taken_has s s.out (next_batch s) batch says.0 same says.2

-- ---- the batch is the log's

segment_first : (S : ℕ) (r : Entry) (rest : List Entry) → slice_get (same_segment S (r ∷ rest)) 0 ≡ Some r
segment_first S r rest =
    let p = λ (other : Entry). other.offset / S == r.offset / S in
    ap (λ (rs : List Entry). slice_get rs 0)
    (take_while-cons p r rest ∙ ap (λ b. cond b (r ∷ take_while p rest) []) (eq-eqb (r.offset / S) (r.offset / S) refl))

segment_front : (S : ℕ) (records : List Entry) → same_segment S records ≡ take (length (same_segment S records)) records
segment_front S [] = refl
segment_front S (r ∷ records) = ap (λ n. take n (r ∷ records)) (sym (length-prefix_len (λ (other : Entry). other.offset / S == r.offset / S) (r ∷ records)))

segment_within : (S : ℕ) (records : List Entry) → length (same_segment S records) ≤ length records
segment_within S [] = omega arith
segment_within S (r ∷ records) =
    let p = λ (other : Entry). other.offset / S == r.offset / S in
    omega (arith, length-prefix_len p (r ∷ records), prefix_len-le-length p (r ∷ records))

-- each lies in the segment of the first
segment_same : (S : ℕ) (records : List Entry) (i : ℕ) (first r : Entry) → i < length (same_segment S records) → slice_get records 0 ≡ Some first → slice_get records i ≡ Some r → r.offset / S ≡ first.offset / S
segment_same S [] i first r low at_first at = absurd (cc)
segment_same S (q ∷ records) i first r low at_first at =
    let p = λ (other : Entry). other.offset / S == q.offset / S in
    let is : q ≡ first = cc in
    let few : i < prefix_len p (q ∷ records) = omega (arith, low, length-prefix_len p (q ∷ records)) in
    eqb-true (r.offset / S) (q.offset / S) (front_passes p (q ∷ records) i r few at) ∙ ap (λ (x : Entry). x.offset / S) is

drop_at : {A : Type 0} (k i : ℕ) (log : List A) (x : A) → slice_get log (k + i) ≡ Some x → slice_get (drop k log) i ≡ Some x
drop_at {A = A} zero i log x at = let same : 0 + i ≡ i = omega arith in subst (λ (n : ℕ). slice_get log n ≡ Some x) same at
drop_at (suc k) i [] x at = absurd (cc)
drop_at {A = A} (suc k) i (y ∷ log) x at =
    let same : suc k + i ≡ suc (k + i) = omega arith in drop_at k i log x (subst (λ (n : ℕ). slice_get (y ∷ log) n ≡ Some x) same at)

-- the batch that is taken has the log's records from the flushed number on
pub step_takes : (s t : State) (batch : Batch) → s.log.base.records ≤ s.flushed → StepsAs s Take (Some (said.Batch (Some batch))) t
    → IsBatchOf (geometry_of s) s.log.records (flushed_in s) batch × (batch.bytes ≡ layouts (next_batch s))
step_takes s t batch low takes =
    let S : ℕ = s.setup.segment in
    let log : List Entry = s.log.records in
    let k : ℕ = flushed_in s in
    let has = answered s t batch takes.answer takes.says takes.step in
    let long = length-drop k log in
    let few = segment_within S (drop k log) in
    let within : k + batch.count ≤ length log = omega (arith, long, few, has.some, has.count) in
    let place : (first : Entry) → slice_get log k ≡ Some first → batch.place ≡ first.offset =
    λ first at. has.place first (ap (λ (rs : List Entry). slice_get (same_segment S rs) 0) (drop_got k log first at) ∙ segment_first S first (drop (k + 1) log)) in (
      record {
        from = omega (arith, has.from, low);
        some = omega (arith, has.some, has.count);
        within = within;
        place = place;
        segment = λ i r less at.
            let first = get_within log k (omega (arith, within, has.some, has.count)) in
            let here : slice_get (drop k log) 0 ≡ Some first.0 = ap (λ (rs : List Entry). slice_get rs 0) (drop_got k log first.0 first.1) in
            segment_same S (drop k log) i first.0 r (omega (arith, less, has.count)) here (drop_at k i log r at)
            ∙ ap (λ n. n / S) (sym (place first.0 first.1));
        bytes = has.bytes ∙ ap layouts (segment_front S (drop k log)) ∙ ap (λ n. layouts (take n (drop k log))) (sym has.count);
        blank = has.blank;
      },
      has.bytes,
    )
