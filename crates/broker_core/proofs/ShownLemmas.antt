-- What is shown is told by the state, so that a request leaves it as it was.
use Rattle.std.proofs.Common.{◌≡◌, refl, ap, sym, ◌∙◌, subst, arith, ℕ, zero, suc, ◌-◌, ◌≤◌, max, true, false, List, [], ◌∷◌, ◌++◌, length, take, drop, Option, Some, None, IfSome, if◌then◌else◌, Result, Ok, Err, IfOk, OnErr}
use Rattle.std.proofs.lemmas.List.{length-drop}
use Rattle.record_codec.specs.Entry.{Entry}
use Rattle.request_fields.specs.declared.request.Request.{Request}
use Rattle.request_fields.specs.declared.request.Request.TheVariants.{Pull}
use Rattle.log_model.specs.Bases.{geometry}
use Rattle.log_model.specs.Batches.{IsBatchOf, blank_between}
use Rattle.log_model.specs.declared.batch.Batch.{Batch}
use Rattle.log_model.specs.Log.{end_of}
use Rattle.log_model.specs.Numbered.{Log, with_appended}
use Rattle.log_model.specs.Segments.{layouts}
use Rattle.pending_log.specs.declared.turn.Out.{Out}
use Rattle.pending_log.specs.Parts.{PendingPart}
use Rattle.pending_log.specs.Pending.{IsPendingOf, IsOutOf}
use Rattle.pending_log.proofs.Lists.{get_there, get_more}
use Rattle.broker_model.specs.State as model
use Rattle.broker_model.specs.State.{State}
use Rattle.broker_model.specs.Events as events
use Rattle.broker_model.specs.Appended.{is_refused, made_by, moment, appended}
use Rattle.broker_model.specs.Step.{after, changed, request_changed, with_records, stored, pull_offset}
use Rattle.broker_model.proofs.StepLemmas.{log_grows, with_appended-nil}
use Rattle.broker_events.specs.declared.said.Said.{Said}
use Rattle.broker_events.specs.Steps.{Says}
use Rattle.core_log.specs.declared.parts.Parts.{Parts}
use Rattle.core_log.specs.Represents.{Represents, AreOut}
use Rattle.core_log.specs.Carries.{Carries, Stays, RepresentsSome}
use Rattle.core_log.specs.Shows.{batch_of, shown_in, shown_of}

-- ---- a log with more records

take_within : {A : Type 0} (xs ys : List A) (n : ℕ) → n ≤ length xs → take n (xs ++ ys) ≡ take n xs
take_within xs ys zero low = refl
take_within [] ys (suc n) low = absurd (let none : ⊥ = omega (arith, low) in none)
take_within (x ∷ xs) ys (suc n) low = ap (λ (zs : List _). x ∷ zs) (take_within xs ys n (omega (arith, low)))

drop_within : {A : Type 0} (xs ys : List A) (n : ℕ) → n ≤ length xs → drop n (xs ++ ys) ≡ drop n xs ++ ys
drop_within xs ys zero low = refl
drop_within [] ys (suc n) low = absurd (let none : ⊥ = omega (arith, low) in none)
drop_within (x ∷ xs) ys (suc n) low = drop_within xs ys n (omega (arith, low))

-- the batch of so many records from a number on is told by the log
same_batch : (segment : ℕ) (log : Log) (more : List Entry) (f : ℕ) (b c : Batch) → IsBatchOf (geometry segment log.base) log.records f b → IsBatchOf (geometry segment log.base) (log.records ++ more) f c
    → c.count ≡ b.count → c ≡ b
same_batch segment log more f b c is_b is_c count =
    let some = is_b.some in
    let within = is_b.within in
    let first = get_there log.records f (omega (arith, some, within)) in
    let low : f ≤ length log.records = omega (arith, within) in
    let long = length-drop f log.records in
    let from : c.from ≡ b.from = is_c.from ∙ sym is_b.from in
    let place : c.place ≡ b.place = is_c.place first.0 (get_more log.records more f (omega (arith, some, within)) ∙ first.1) ∙ sym (is_b.place first.0 first.1) in
    let bytes : c.bytes ≡ b.bytes =
    is_c.bytes ∙ (ap (λ (n : ℕ). layouts (take n (drop f (log.records ++ more)))) count
    ∙ (ap (λ (rs : List Entry). layouts (take b.count rs)) (drop_within log.records more f low)
    ∙ (ap layouts (take_within (drop f log.records) more b.count (omega (arith, within, long))) ∙ sym is_b.bytes))) in
    let blank : c.blank ≡ b.blank =
    is_c.blank ∙ (ap (λ (rs : List Entry). blank_between (end_of log.base rs) c.place) (take_within log.records more f low)
    ∙ (ap (λ (n : ℕ). blank_between (end_of log.base (take f log.records)) n) place ∙ sym is_b.blank)) in
    λ i. record { from = from i; count = count i; place = place i; blank = blank i; bytes = bytes i }

same_out : (segment : ℕ) (log : Log) (more : List Entry) (flushed : ℕ) (p q : Option Out) (o : Option model.Out) → IfSome p (IsOutOf segment log flushed) → IfSome q (IsOutOf segment (with_appended log more) flushed)
    → AreOut p o → AreOut q o → batch_of q ≡ batch_of p
same_out segment log more flushed None None o is_p is_q of_p of_q = refl
same_out segment log more flushed None (Some y) None is_p is_q of_p of_q = absurd of_q
same_out segment log more flushed None (Some y) (Some out) is_p is_q of_p of_q = absurd of_p
same_out segment log more flushed (Some x) None None is_p is_q of_p of_q = absurd of_p
same_out segment log more flushed (Some x) None (Some out) is_p is_q of_p of_q = absurd of_q
same_out segment log more flushed (Some x) (Some y) None is_p is_q of_p of_q = absurd of_p
same_out segment log more flushed (Some x) (Some y) (Some out) is_p is_q of_p of_q =
    ap (λ (b : Batch). Some b) (same_batch segment log more (flushed - log.base.records) x.batch y.batch is_p.batch is_q.batch (of_q.0 ∙ sym of_p.0))

-- what is shown of the pending part of a log, and of that of the log with more records
same_shown : (log : Log) (more : List Entry) (p q : PendingPart) (o : Option model.Out) → IsPendingOf log p → IsPendingOf (with_appended log more) q → q.flushed ≡ p.flushed → q.segment ≡ p.segment
    → AreOut p.out o → AreOut q.out o → shown_in q ≡ shown_in p
same_shown log more p q o is_p is_q flushed segment of_p of_q =
    let kept = is_p.kept in
    let within = is_p.within in
    let start : q.start ≡ p.start =
    is_q.start ∙ (ap (λ n. end_of log.base (take (n - log.base.records) (log.records ++ more))) flushed
    ∙ (ap (λ (rs : List Entry). end_of log.base rs) (take_within log.records more (p.flushed - log.base.records) (omega (arith, kept, within))) ∙ sym is_p.start)) in
    let out_q = subst (λ n. IfSome q.out (IsOutOf n (with_appended log more) p.flushed)) segment (subst (λ n. IfSome q.out (IsOutOf q.segment (with_appended log more) n)) flushed is_q.out) in
    let out = same_out p.segment log more p.flushed p.out q.out o is_p.out out_q of_p of_q in
    λ i. record { flushed = flushed i; end = start i; out = out i }

-- ---- requests

-- the state has the same setup, flushed records and turn, and a log with more records
pub record KeepsTurn (s t : State) : Type 0 where
  pub more : List Entry
  pub log : t.log ≡ with_appended s.log more
  pub setup : t.setup ≡ s.setup
  pub flushed : t.flushed ≡ s.flushed
  pub out : t.out ≡ s.out

-- the numbers of flush turns
abbrev pub AreKept : State → State → Type 0
AreKept s t = (t.setup ≡ s.setup) × (t.flushed ≡ s.flushed) × (t.out ≡ s.out)

records_keep : (s : State) (now : ℕ) (records : List Entry) → AreKept s (with_records s now records)
records_keep s now [] = (refl, refl, refl)
records_keep s now (r ∷ records) = (refl, refl, refl)

offset_keeps : (s : State) (group topic : List ℕ) (queue : ℕ) (offset : Option ℕ) → AreKept s (stored s group topic queue offset)
offset_keeps s group topic queue None = (refl, refl, refl)
offset_keeps s group topic queue (Some offset) = (refl, refl, refl)

request_keeps : (s : State) (link now : ℕ) (r : Request) → AreKept s (request_changed s link now r)
unfolding request_changed
request_keeps s link now (Pull p) = offset_keeps s p.group p.topic p.queue (pull_offset p)
request_keeps s link now _ = (refl, refl, refl)

event_keeps : (s : State) (a : events.Asked) → AreKept s (after s (events.Asks a))
unfolding after changed
event_keeps s a =
    elim (is_refused s (events.Asks a)) as (λ b. AreKept s (if b then s else with_records (request_changed s a.link a.now a.request) (moment s (events.Asks a)) (made_by s (events.Asks a)))) [
      | true ↦ (refl, refl, refl)
      | false ↦
          let first = records_keep (request_changed s a.link a.now a.request) (moment s (events.Asks a)) (made_by s (events.Asks a)) in
          let second = request_keeps s a.link a.now a.request in
          (first.0 ∙ second.0, first.1 ∙ second.1, first.2 ∙ second.2)
    ]

-- a request keeps the turn
asked_keeps : (s : State) (a : events.Asked) → KeepsTurn s (after s (events.Asks a))
asked_keeps s a =
    let kept = event_keeps s a in
    record { more = appended s (events.Asks a); log = log_grows s (events.Asks a) (λ removal. removal); setup = kept.0; flushed = kept.1; out = kept.2 }

deliver_keeps : (s : State) (now : ℕ) → AreKept s (after s (events.Deliver now))
unfolding after changed
deliver_keeps s now =
    elim (is_refused s (events.Deliver now)) as (λ b. AreKept s (if b then s else with_records s (moment s (events.Deliver now)) (made_by s (events.Deliver now)))) [
      | true ↦ (refl, refl, refl)
      | false ↦ records_keep s (moment s (events.Deliver now)) (made_by s (events.Deliver now))
    ]

-- a delivery does, too
delivery_keeps : (s : State) (now : ℕ) → KeepsTurn s (after s (events.Deliver now))
delivery_keeps s now =
    let kept = deliver_keeps s now in
    record { more = appended s (events.Deliver now); log = log_grows s (events.Deliver now) (λ removal. removal); setup = kept.0; flushed = kept.1; out = kept.2 }

does_keep : (s : State) (now : ℕ) → AreKept s (after s (events.Check now))
unfolding after changed
does_keep s now =
    elim (is_refused s (events.Check now)) as (λ b. AreKept s (if b then s else with_records s (moment s (events.Check now)) (made_by s (events.Check now)))) [
      | true ↦ (refl, refl, refl)
      | false ↦ records_keep s (moment s (events.Check now)) (made_by s (events.Check now))
    ]

-- and a check
check_keeps : (s : State) (now : ℕ) → KeepsTurn s (after s (events.Check now))
check_keeps s now =
    let kept = does_keep s now in
    record { more = appended s (events.Check now); log = log_grows s (events.Check now) (λ removal. removal); setup = kept.0; flushed = kept.1; out = kept.2 }

-- and so does nothing at all
none_keeps : (s : State) → KeepsTurn s s
none_keeps s = record { more = []; log = with_appended-nil s.log; setup = refl; flushed = refl; out = refl }

shown_keeps : (old new : Parts) (s t : State) → KeepsTurn s t → Represents old s → Represents new t → shown_of new ≡ shown_of old
shown_keeps old new s t keeps are is =
    same_shown s.log keeps.more old.pending new.pending s.out are.pending (subst (λ (l : Log). IsPendingOf l new.pending) keeps.log is.pending)
    (is.numbers.flushed ∙ (keeps.flushed ∙ sym are.numbers.flushed))
    (is.numbers.segment ∙ (ap (λ (setup : model.Setup). setup.segment) keeps.setup ∙ sym are.numbers.segment))
    are.out (subst (λ (o : Option model.Out). AreOut new.pending.out o) keeps.out is.out)

-- so what is shown stays, whatever the call says
pub request_shown : {E : Type 0} (old new : Parts) (link : ℕ) (host : List ℕ) (now : ℕ) (request : Request) (result : Result Said E)
    → IfOk result (λ what. Carries old (events.Asks (record { link = link; host = host; now = now; request = request })) (Says what) new) → OnErr result (Stays old new)
    → RepresentsSome old → shown_of new ≡ shown_of old
request_shown old new link host now request (Ok what) carries stays some =
    let a : events.Asked = record { link = link; host = host; now = now; request = request } in
    shown_keeps old new some.0 (after some.0 (events.Asks a)) (asked_keeps some.0 a) some.1 (carries some.0 some.1).1
request_shown old new link host now request (Err fault) carries stays some = shown_keeps old new some.0 some.0 (none_keeps some.0) some.1 (stays some.0 some.1)

pub delivery_shown : {E : Type 0} (old new : Parts) (now : ℕ) (result : Result Said E)
    → IfOk result (λ what. Carries old (events.Deliver now) (Says what) new) → OnErr result (Stays old new) → RepresentsSome old → shown_of new ≡ shown_of old
delivery_shown old new now (Ok what) carries stays some = shown_keeps old new some.0 (after some.0 (events.Deliver now)) (delivery_keeps some.0 now) some.1 (carries some.0 some.1).1
delivery_shown old new now (Err fault) carries stays some = shown_keeps old new some.0 some.0 (none_keeps some.0) some.1 (stays some.0 some.1)

pub check_shown : {E : Type 0} (old new : Parts) (now : ℕ) (result : Result Said E)
    → IfOk result (λ what. Carries old (events.Check now) (Says what) new) → OnErr result (Stays old new) → RepresentsSome old → shown_of new ≡ shown_of old
check_shown old new now (Ok what) carries stays some = shown_keeps old new some.0 (after some.0 (events.Check now)) (check_keeps some.0 now) some.1 (carries some.0 some.1).1
check_shown old new now (Err fault) carries stays some = shown_keeps old new some.0 some.0 (none_keeps some.0) some.1 (stays some.0 some.1)
