-- Which events append a delivery: only one that delivers, and then it is that of the next message of its level.
use Rattle.std.proofs.Common.{◌≡◌, ◌≢◌, ◌⊎◌, inl, inr, refl, ap, sym, ◌∙◌, subst, arith, ℕ, zero, suc, ◌+◌, ◌-◌, ◌<◌, ◌≤◌, ◌^◌, max, List, [], ◌∷◌, length, slice_get, Bool, true, false, Option, Some, None, if◌then◌else◌}
use Rattle.std.specs.Prelude.{◌||◌, ◌==◌, codes, nat_lt, nat_le}
use Rattle.std.specs.List.{list_any}
use Rattle.std.proofs.lemmas.Bool.{or_parts, ltb-false, leb-true}
use Rattle.std.proofs.lemmas.Option.{same_Some}
use Rattle.mq_bytes.specs.Delays.{level_delay}
use Rattle.record_codec.specs.Entry.{Entry}
use Rattle.record_codec.specs.Layout.{size}
use Rattle.record_codec.specs.Drafts.{draft_size}
use Rattle.record_codec.specs.Props.{value_of, without}
use Rattle.record_codec.specs.declared.draft.Draft.{Draft}
use Rattle.record_codec.proofs.LastLemmas.{value_of-kept}
use Rattle.log_model.specs.Admissible.{level_topic}
use Rattle.log_model.specs.Delays.{next_delayed, due_here, due_among, due_delayed, levels, progress}
use Rattle.log_model.specs.Drafts.{copy_draft, op_draft, renewal_draft, discard_draft, delivery_draft, delivery_text, without_real, without_transaction}
use Rattle.log_model.specs.Kinds.{is_half, is_delayed}
use Rattle.log_model.specs.Numbered.{Log, with_appended, next_record, next_records, item_at, queue_min, place_end}
use Rattle.log_model.specs.Transactions.{TransactionState, Open, Committed, RolledBack, Discarded, transaction_state, last_of, renewals, is_renewal}
use Rattle.log_model.specs.Queues.{queue_of}
use Rattle.log_model.proofs.FirstFits.{place_behind}
use Rattle.request_fields.specs.declared.request.Request.{Request}
use Rattle.request_fields.specs.declared.request.Request.TheVariants.{Send, EndTransaction}
use Rattle.broker_model.specs.State.{State}
use Rattle.broker_model.specs.Events
use Rattle.broker_model.specs.Refusals.{named_half, verdict_origin}
use Rattle.broker_model.specs.Appended.{request_drafts, verdict_drafts, open_verdict, first_verdict, check_drafts, next_check, due_origin, delivery_drafts, drafts_of, made_by, is_refused, is_refused_request, is_past_end, is_full, moment}
use Rattle.core_laws.specs.Delays.{Delivers, IsDeliveryOf, front}
use Rattle.core_laws.specs.Kept.{IsKept}
use Rattle.core_laws.proofs.DeliveryTexts.{end_value}
use Rattle.core_laws.proofs.DraftFits.{differ, send_unmarked, renewed_unmarked}
use Rattle.core_laws.proofs.Items.{item_slice, item_later}
use Rattle.core_laws.proofs.KeptDrafts.{queue_low}
use Rattle.core_laws.proofs.KeptSteps.{named_there, due_there, among_there, last_there}
use Rattle.core_laws.proofs.Lists.{within}
use Rattle.core_laws.proofs.Pulls.{kept_was_there, kept_passes}
use Rattle.std.proofs.lemmas.Bool.{and_parts}

-- none of the drafts is a delivery's
abbrev pub AreUnmarked : List Draft → Type 0
AreUnmarked [] = Unit {0}
AreUnmarked (d ∷ drafts) = (value_of (codes "DELAY_FROM") d.props ≡ None) × AreUnmarked drafts

abbrev pub NoMarks : State → Events.Event → Type 0
NoMarks s e = AreUnmarked (drafts_of s e)

-- one delivery is appended, of the next message of its level among the dispatched records
pub record IsDelivered (s : State) (e : Events.Event) : Type 0 where
  pub level : ℕ
  pub high : level ≤ 18
  pub item : Entry
  pub seen : item_at (front s.log (s.dispatched - s.log.base.records)) level_topic (level - 1) (progress s.log level) ≡ Some item
  pub small : progress s.log level < 2 ^ 64
  pub copy : Entry
  pub of : IsDeliveryOf level (progress s.log level) item copy
  pub marked : Delivers level (progress s.log level) copy
  pub made : made_by s e ≡ copy ∷ []

left_of : (a b : Bool) → a ≡ true → (a || b) ≡ true
left_of true b is = refl
left_of false b is = absurd (cc)

right_of : (a b : Bool) → b ≡ true → (a || b) ≡ true
right_of true b is = refl
right_of false b is = is

-- ---- requests

-- no other name is lost
kept_mark : (name : List ℕ) (props : List (List ℕ × List ℕ)) → codes "DELAY_FROM" ≢ name → value_of (codes "DELAY_FROM") props ≡ None → value_of (codes "DELAY_FROM") (without name props) ≡ None
kept_mark name props differs none = value_of-kept (codes "DELAY_FROM") name props differs ∙ none

real_mark : (props : List (List ℕ × List ℕ)) → value_of (codes "DELAY_FROM") props ≡ None → value_of (codes "DELAY_FROM") (without_real props) ≡ None
real_mark props none = kept_mark (codes "REAL_QID") (without (codes "REAL_TOPIC") props) (differ _ _ refl) (kept_mark (codes "REAL_TOPIC") props (differ _ _ refl) none)

copy_mark : (props : List (List ℕ × List ℕ)) → value_of (codes "DELAY_FROM") props ≡ None → value_of (codes "DELAY_FROM") (without_transaction (without_real props)) ≡ None
copy_mark props none =
    kept_mark (codes "TRAN_MSG") (without (codes "TRAN_PREPARED_QUEUE_OFFSET") (without (codes "TRANSACTION_CHECK_TIMES") (without_real props))) (differ _ _ refl)
    (kept_mark (codes "TRAN_PREPARED_QUEUE_OFFSET") (without (codes "TRANSACTION_CHECK_TIMES") (without_real props)) (differ _ _ refl)
    (kept_mark (codes "TRANSACTION_CHECK_TIMES") (without_real props) (differ _ _ refl) (real_mark props none)))

half_unmarked : (s : State) (half : Entry) (k : ℕ) → IsKept s.log → slice_get s.log.records k ≡ Some half → is_half half ≡ true → value_of (codes "DELAY_FROM") half.props ≡ None
half_unmarked s half k kept at is = (kept.each k half at).undelivered (left_of (is_half half) (is_delayed half) is)

open_marks : (s : State) (time verdict : ℕ) (half origin : Entry) → value_of (codes "DELAY_FROM") half.props ≡ None → AreUnmarked (open_verdict s time verdict half origin)
open_marks s time verdict half origin none =
    elim (verdict == 8) as (λ b. AreUnmarked (if b then copy_draft s.setup.host half ∷ op_draft s.setup.host time origin.queue_offset ∷ []
    else (if verdict == 12 then op_draft s.setup.host time origin.queue_offset ∷ [] else []))) [
      | true ↦ (copy_mark half.props none, (refl, tt))
      | false ↦ elim (verdict == 12) as (λ b. AreUnmarked (if b then op_draft s.setup.host time origin.queue_offset ∷ [] else [])) [
        | true ↦ (refl, tt)
        | false ↦ tt
      ]
    ]

first_marks : (state : TransactionState) (drafts : List Draft) → AreUnmarked drafts → AreUnmarked (first_verdict state drafts)
first_marks Open drafts none = none
first_marks Committed drafts none = tt
first_marks RolledBack drafts none = tt
first_marks Discarded drafts none = tt

verdict_marks : (s : State) (time verdict : ℕ) (half origin : Option Entry) → IsKept s.log
    → ((r : Entry) → half ≡ Some r → (k : ℕ) × (slice_get s.log.records k ≡ Some r) × (is_half r ≡ true)) → AreUnmarked (verdict_drafts s time verdict half origin)
verdict_marks s time verdict None origin kept there = tt
verdict_marks s time verdict (Some half) None kept there = tt
verdict_marks s time verdict (Some half) (Some origin) kept there =
    let h = there half refl in
    first_marks (transaction_state s.log.records origin.queue_offset) _ (open_marks s time verdict half origin (half_unmarked s half h.0 kept h.1 h.2))

request_marks : (s : State) (time : ℕ) (host : List ℕ) (r : Request) → IsKept s.log → AreUnmarked (request_drafts s time host r)
request_marks s time host (Send send) kept = (send_unmarked s.setup.host host send, tt)
request_marks s time host (EndTransaction end) kept =
    verdict_marks s time end.verdict (named_half s end) (verdict_origin s end) kept (λ r is. named_there s end r is)
request_marks s time host _ kept = tt

-- ---- checks

next_marks : (s : State) (time : ℕ) (origin : Entry) (asked : List Entry) (last : Option Entry) → value_of (codes "DELAY_FROM") origin.props ≡ None
    → ((r : Entry) → last ≡ Some r → value_of (codes "DELAY_FROM") r.props ≡ None) → AreUnmarked (next_check s time origin asked last)
next_marks s time origin asked None none also = (renewed_unmarked 1 origin none, tt)
next_marks s time origin asked (Some renewal) none also = elim (nat_lt (length asked) 15) as (λ b. AreUnmarked (if b then renewal_draft s.setup.host (length asked + 1) origin ∷ []
    else discard_draft s.setup.host renewal ∷ op_draft s.setup.host time origin.queue_offset ∷ [])) [
      | true ↦ (renewed_unmarked (length asked + 1) origin none, tt)
      | false ↦ (also renewal refl, (refl, tt))
    ]

check_marks : (s : State) (time : ℕ) (due : Option Entry) → IsKept s.log → due_origin s time ≡ due → AreUnmarked (check_drafts s time due)
check_marks s time None kept is = tt
check_marks s time (Some origin) kept is =
    let h = due_there s time origin is in
    next_marks s time origin (renewals s.log.records origin.queue_offset) (last_of (renewals s.log.records origin.queue_offset)) (half_unmarked s origin h.0 kept h.1 h.2)
    (λ r last. let l = last_there (renewals s.log.records origin.queue_offset) r last in
    let at = kept_was_there (is_renewal origin.queue_offset) s.log.records l.0 r l.1 in
    half_unmarked s r at.0 kept at.1 (and_parts (is_half r) _ (kept_passes (is_renewal origin.queue_offset) s.log.records l.0 r l.1)).0)

-- ---- deliveries

abbrev AllLevels : List ℕ → Type 0
AllLevels [] = Unit {0}
AllLevels (level ∷ more) = (level ≤ 18) × AllLevels more

all_levels : AllLevels levels
all_levels = (omega arith, (omega arith, (omega arith, (omega arith, (omega arith, (omega arith, (omega arith, (omega arith, (omega arith, (omega arith, (omega arith, (omega arith, (omega arith, (omega arith, (omega arith, (omega arith, (omega arith, (omega arith, tt))))))))))))))))))

here_due : (now level : ℕ) (next : Option Entry) (more : Option (ℕ × Entry)) (due : ℕ × Entry) → due_here now level next more ≡ Some due
    → (more ≡ Some due) ⊎ ((next ≡ Some due.1) × (due.0 ≡ level) × (due.1.store + level_delay level ≤ now))
here_due now level None more due is = inl is
here_due now level (Some r) more due is = by (nat_le (r.store + level_delay level) now) refl is
  where
    by : (b : Bool) → nat_le (r.store + level_delay level) now ≡ b → (if b then Some (level, r) else more) ≡ Some due
        → (more ≡ Some due) ⊎ ((Some r ≡ Some due.1) × (due.0 ≡ level) × (due.1.store + level_delay level ≤ now))
    by true le got =
        let same = same_Some (level, r) due got in
        inr (
          ap (λ (p : ℕ × Entry). Some p.1) same,
          ap (λ (p : ℕ × Entry). p.0) (sym same),
          omega (arith, leb-true (r.store + level_delay level) now le, ap (λ (p : ℕ × Entry). p.1.store) same),
        )
    by false le got = inl got

-- what is due is the next message of its level, whose time has come
among_due : (log : Log) (d now : ℕ) (some : List ℕ) (due : ℕ × Entry) → AllLevels some → due_among log d now some ≡ Some due
    → (due.0 ≤ 18) × (next_delayed log d due.0 ≡ Some due.1) × (due.1.store + level_delay due.0 ≤ now)
among_due log d now [] due low is = absurd (cc)
among_due log d now (level ∷ more) due low is = elim (here_due now level (next_delayed log d level) (due_among log d now more) due is) [
  | inl later ↦ among_due log d now more due low.1 later
  | inr here ↦ (
    omega (arith, low.0, here.1),
    subst (λ (v : ℕ). next_delayed log d v ≡ Some due.1) (sym here.1) here.0,
    omega (arith, here.2, ap level_delay here.1),
  )
]

deliver_marks : (s : State) (now : ℕ) (due : Option (ℕ × Entry)) → 0 < s.setup.segment → IsKept s.log → due_delayed s.log s.dispatched (max now s.now) ≡ due
    → drafts_of s (Events.Deliver now) ≡ delivery_drafts s due → is_refused s (Events.Deliver now) ≡ false
    → AreUnmarked (delivery_drafts s due) ⊎ IsDelivered s (Events.Deliver now)
unfolding is_refused
deliver_marks s now None some kept is drafts fine = inl tt
deliver_marks s now (Some due) some kept is drafts fine =
    let e : Events.Event = Events.Deliver now in
    let n : ℕ = progress s.log due.0 in
    let copy : Entry = next_record s.setup.segment (max now s.now) s.log (delivery_draft s.setup.host due.0 n due.1) in
    let made : made_by s e ≡ copy ∷ [] = ap (next_records s.setup.segment (max now s.now) s.log) drafts in
    let next = among_due s.log s.dispatched (max now s.now) levels due all_levels is in
    let there = among_there s.log s.dispatched (max now s.now) levels due is in
    let none = (kept.each there.0 due.1 there.1).undelivered (right_of (is_half due.1) (is_delayed due.1) there.2) in
    let outer = or_parts (is_refused_request s e || is_past_end s e) (is_full s e) fine in
    let inner = or_parts (is_refused_request s e) (is_past_end s e) outer.0 in
    let end = or_parts (nat_lt (2 ^ 62) (copy.offset + size copy)) false (subst (λ (l : List Entry). list_any (λ r. nat_lt (2 ^ 62) (r.offset + size r)) l ≡ false) made inner.1) in
    let slot = item_slice s.log level_topic (due.0 - 1) n due.1 (item_later s.log (s.dispatched - s.log.base.records) level_topic (due.0 - 1) n due.1 next.1) in
    let behind : place_end s.log ≤ copy.offset = place_behind s.setup.segment (place_end s.log) (draft_size (delivery_draft s.setup.host due.0 n due.1)) some in
    inr (record {
      level = due.0;
      high = next.0;
      item = due.1;
      seen = next.1;
      small = omega (
        arith,
        ltb-false (2 ^ 62) (copy.offset + size copy) end.0,
        behind,
        queue_low s.log level_topic (due.0 - 1) kept,
        slot.0,
        within (queue_of s.log.records level_topic (due.0 - 1)) (n - queue_min s.log level_topic (due.0 - 1)) due.1 slot.1,
      );
      copy = copy;
      of = record { topic = refl; queue = refl; body = refl; props = refl; due = next.2 };
      marked = end_value (codes "DELAY_FROM") (delivery_text due.0 n) (without (codes "DELAY") (without_real due.1.props))
          (kept_mark (codes "DELAY") (without_real due.1.props) (differ _ _ refl) (real_mark due.1.props none));
      made = made;
    })

-- ---- all events

pub event_marks : (s : State) (e : Events.Event) → 0 < s.setup.segment → IsKept s.log → is_refused s e ≡ false → NoMarks s e ⊎ IsDelivered s e
unfolding drafts_of
event_marks s (Events.Asks a) some kept fine = inl (request_marks s (max a.now s.now) a.host a.request kept)
event_marks s (Events.Deliver now) some kept fine = deliver_marks s now (due_delayed s.log s.dispatched (max now s.now)) some kept refl refl fine
event_marks s (Events.Check now) some kept fine = inl (check_marks s (max now s.now) (due_origin s (max now s.now)) kept refl)
event_marks s Events.Take some kept fine = inl tt
event_marks s (Events.Flushed n) some kept fine = inl tt
event_marks s (Events.FlushFailed n) some kept fine = inl tt
event_marks s (Events.Look n t) some kept fine = inl tt
event_marks s (Events.Dispatch n) some kept fine = inl tt
event_marks s (Events.Leave n) some kept fine = inl tt
event_marks s (Events.Trim base) some kept fine = inl tt

-- a record of drafts that are none of a delivery is none
unmarked_made : (S now : ℕ) (log : Log) (drafts : List Draft) (k : ℕ) (r : Entry) → AreUnmarked drafts → slice_get (next_records S now log drafts) k ≡ Some r → value_of (codes "DELAY_FROM") r.props ≡ None
unmarked_made S now log [] k r none got = absurd (cc)
unmarked_made S now log (d ∷ drafts) zero r none got = ap (λ (x : Entry). value_of (codes "DELAY_FROM") x.props) (sym (same_Some (next_record S now log d) r got)) ∙ none.0
unmarked_made S now log (d ∷ drafts) (suc k) r none got = unmarked_made S now (with_appended log (next_record S now log d ∷ [])) drafts k r none.1 got

pub none_marked : (s : State) (e : Events.Event) → NoMarks s e → (k : ℕ) (r : Entry) → slice_get (made_by s e) k ≡ Some r → value_of (codes "DELAY_FROM") r.props ≡ None
none_marked s e none k r got = unmarked_made s.setup.segment (moment s e) s.log (drafts_of s e) k r none got
