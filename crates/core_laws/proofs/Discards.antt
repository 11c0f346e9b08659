-- Which events give a half message up: only a check-back of an open origin.
use Rattle.std.proofs.Common.{◌≡◌, ◌⊎◌, inl, inr, refl, ap, sym, ◌∙◌, ℕ, zero, suc, ◌+◌, max, List, [], ◌∷◌, length, slice_get, Bool, true, false, Option, Some, None, if◌then◌else◌}
use Rattle.std.specs.Prelude.{codes, ◌||◌, ◌&&◌, ◌==◌, not, nat_lt}
use Rattle.std.specs.Str.{bytes_eq}
use Rattle.std.proofs.lemmas.Option.{same_Some}
use Rattle.record_codec.specs.Entry.{Entry}
use Rattle.record_codec.specs.declared.draft.Draft.{Draft}
use Rattle.log_model.specs.Admissible.{discard_topic}
use Rattle.log_model.specs.Delays.{due_delayed, levels}
use Rattle.log_model.specs.Drafts.{copy_draft, op_draft, renewal_draft, discard_draft, text_in}
use Rattle.log_model.specs.Kinds.{is_half, is_delayed, is_discard}
use Rattle.log_model.specs.Numbered.{Log, with_appended, next_record, next_records}
use Rattle.log_model.specs.Transactions.{TransactionState, Open, Committed, RolledBack, Discarded, transaction_state, last_of, renewals, is_renewal, is_settled}
use Rattle.request_fields.specs.Requests.{SendSaid}
use Rattle.request_fields.specs.declared.request.Request.{Request}
use Rattle.request_fields.specs.declared.request.Request.TheVariants.{Send, EndTransaction}
use Rattle.broker_model.specs.State.{State}
use Rattle.broker_model.specs.Sends.{send_draft, half_draft, delayed_or_plain, plain_draft, is_half_send, level_of}
use Rattle.broker_model.specs.Events
use Rattle.broker_model.specs.Refusals.{refusal_of, named_half, verdict_origin}
use Rattle.broker_model.specs.Appended.{request_drafts, verdict_drafts, open_verdict, first_verdict, check_drafts, next_check, due_origin, is_asked_at, delivery_drafts, drafts_of, is_refused, moment}
use Rattle.core_laws.specs.Kept.{IsKept}
use Rattle.core_laws.proofs.DraftFits.{topic_apart, half_apart}
use Rattle.core_laws.proofs.KeptSteps.{named_there, due_there, among_there, last_there, send_plain}
use Rattle.core_laws.proofs.Pulls.{kept_was_there, kept_passes}
use Rattle.core_laws.proofs.Texts.{same_text}
use Rattle.core_laws.proofs.Verdicts.{no_row}

-- none of the drafts gives a half message up
abbrev pub NoDiscards : List Draft → Type 0
NoDiscards [] = Unit {0}
NoDiscards (d ∷ drafts) = (bytes_eq d.topic discard_topic ≡ false) × NoDiscards drafts

-- the last renewal of an origin that isn't settled is given up, with an op record
pub record GivesUp (s : State) (e : Events.Event) : Type 0 where
  pub origin : Entry
  pub index : ℕ
  pub stands : slice_get s.log.records index ≡ Some origin
  pub is_half : is_half origin ≡ true
  pub unsettled : is_settled s.log.records origin.queue_offset ≡ false
  pub renewal : Entry
  pub place : ℕ
  pub there : slice_get s.log.records place ≡ Some renewal
  pub renews : is_renewal origin.queue_offset renewal ≡ true
  pub drafts_are : drafts_of s e ≡ discard_draft s.setup.host renewal ∷ op_draft s.setup.host (moment s e) origin.queue_offset ∷ []

pub left_of : (a b : Bool) → a ≡ true → (a || b) ≡ true
left_of true b is = refl
left_of false b is = absurd (cc)

pub right_of : (a b : Bool) → b ≡ true → (a || b) ≡ true
right_of true b is = refl
right_of false b is = is

-- ---- requests

send_discards : (host born : List ℕ) (send : SendSaid) → bytes_eq send.topic discard_topic ≡ false → bytes_eq (send_draft host born send).topic discard_topic ≡ false
send_discards host born send plain =
    elim (is_half_send send) as (λ b. bytes_eq (if b then half_draft send.group (plain_draft host born send) else delayed_or_plain (level_of send) (plain_draft host born send)).topic discard_topic ≡ false) [
      | true ↦ refl
      | false ↦ elim (level_of send) as (λ level. bytes_eq (delayed_or_plain level (plain_draft host born send)).topic discard_topic ≡ false) [
        | None ↦ plain
        | Some level ↦ refl
      ]
    ]

open_discards : (s : State) (time verdict : ℕ) (half origin : Entry) (k : ℕ) → IsKept s.log → slice_get s.log.records k ≡ Some half → is_half half ≡ true
    → NoDiscards (open_verdict s time verdict half origin)
open_discards s time verdict half origin k kept at is =
    elim (verdict == 8) as (λ b. NoDiscards (if b then copy_draft s.setup.host half ∷ op_draft s.setup.host time origin.queue_offset ∷ []
    else (if verdict == 12 then op_draft s.setup.host time origin.queue_offset ∷ [] else []))) [
      | true ↦ ((topic_apart (text_in (codes "REAL_TOPIC") half.props) ((kept.each k half at).real (left_of (is_half half) (is_delayed half) is))).discard, (refl, tt))
      | false ↦ elim (verdict == 12) as (λ b. NoDiscards (if b then op_draft s.setup.host time origin.queue_offset ∷ [] else [])) [
        | true ↦ (refl, tt)
        | false ↦ tt
      ]
    ]

first_discards : (state : TransactionState) (drafts : List Draft) → NoDiscards drafts → NoDiscards (first_verdict state drafts)
first_discards Open drafts none = none
first_discards Committed drafts none = tt
first_discards RolledBack drafts none = tt
first_discards Discarded drafts none = tt

verdict_discards : (s : State) (time verdict : ℕ) (half origin : Option Entry) → IsKept s.log
    → ((r : Entry) → half ≡ Some r → (k : ℕ) × (slice_get s.log.records k ≡ Some r) × (is_half r ≡ true)) → NoDiscards (verdict_drafts s time verdict half origin)
verdict_discards s time verdict None origin kept there = tt
verdict_discards s time verdict (Some half) None kept there = tt
verdict_discards s time verdict (Some half) (Some origin) kept there =
    let h = there half refl in
    first_discards (transaction_state s.log.records origin.queue_offset) _ (open_discards s time verdict half origin h.0 kept h.1 h.2)

request_discards : (s : State) (time : ℕ) (host : List ℕ) (r : Request) → IsKept s.log → refusal_of s r ≡ None → NoDiscards (request_drafts s time host r)
unfolding refusal_of
request_discards s time host (Send send) kept none = (send_discards s.setup.host host send (topic_apart send.topic (send_plain s send none)).discard, tt)
request_discards s time host (EndTransaction end) kept none =
    verdict_discards s time end.verdict (named_half s end) (verdict_origin s end) kept (λ r is. named_there s end r is)
request_discards s time host _ kept none = tt

-- no request gives a half message up
pub asks_discards : (s : State) (a : Events.Asked) → IsKept s.log → is_refused s (Events.Asks a) ≡ false → NoDiscards (drafts_of s (Events.Asks a))
unfolding drafts_of
asks_discards s a kept fine = request_discards s (max a.now s.now) a.host a.request kept (no_row s a fine)

-- ---- checks and deliveries

deliver_discards : (s : State) (now : ℕ) (due : Option (ℕ × Entry)) → IsKept s.log → due_delayed s.log s.dispatched now ≡ due → NoDiscards (delivery_drafts s due)
deliver_discards s now None kept is = tt
deliver_discards s now (Some due) kept is =
    let h = among_there s.log s.dispatched now levels due is in
    ((topic_apart (text_in (codes "REAL_TOPIC") due.1.props) ((kept.each h.0 due.1 h.1).real (right_of (is_half due.1) (is_delayed due.1) h.2))).discard, tt)

-- what a check of this origin writes
next_discards : (s : State) (time : ℕ) (origin : Entry) (asked : List Entry) (last : Option Entry) → is_half origin ≡ true
    → NoDiscards (next_check s time origin asked last)
    ⊎ ((renewal : Entry) × (last ≡ Some renewal) × (next_check s time origin asked last ≡ discard_draft s.setup.host renewal ∷ op_draft s.setup.host time origin.queue_offset ∷ []))
next_discards s time origin asked None is = inl (half_apart origin.topic discard_topic (same_text origin.topic _ is) refl, tt)
next_discards s time origin asked (Some renewal) is = by (nat_lt (length asked) 15)
  where
    by : (b : Bool) → NoDiscards (if b then renewal_draft s.setup.host (length asked + 1) origin ∷ []
        else discard_draft s.setup.host renewal ∷ op_draft s.setup.host time origin.queue_offset ∷ [])
        ⊎ ((r : Entry) × (Some renewal ≡ Some r) × ((if b then renewal_draft s.setup.host (length asked + 1) origin ∷ []
        else discard_draft s.setup.host renewal ∷ op_draft s.setup.host time origin.queue_offset ∷ []) ≡ discard_draft s.setup.host r ∷ op_draft s.setup.host time origin.queue_offset ∷ []))
    by true = inl (half_apart origin.topic discard_topic (same_text origin.topic _ is) refl, tt)
    by false = inr (renewal, refl, refl)

pub unsettled : (a b : Bool) → (not a && b) ≡ true → a ≡ false
unsettled true b is = absurd (cc)
unsettled false b is = refl

check_discards : (s : State) (now : ℕ) (due : Option Entry) → due_origin s (max now s.now) ≡ due → drafts_of s (Events.Check now) ≡ check_drafts s (max now s.now) due
    → NoDiscards (check_drafts s (max now s.now) due) ⊎ GivesUp s (Events.Check now)
check_discards s now None is drafts = inl tt
check_discards s now (Some origin) is drafts =
    let h = due_there s (max now s.now) origin is in
    elim (next_discards s (max now s.now) origin (renewals s.log.records origin.queue_offset) (last_of (renewals s.log.records origin.queue_offset)) h.2) [
      | inl none ↦ inl none
      | inr up ↦
          let last = last_there (renewals s.log.records origin.queue_offset) up.0 up.1 in
          let at = kept_was_there (is_renewal origin.queue_offset) s.log.records last.0 up.0 last.1 in
          inr (record {
            origin = origin;
            index = h.0;
            stands = h.1;
            is_half = h.2;
            unsettled = unsettled (is_settled s.log.records origin.queue_offset) (is_asked_at (max now s.now) origin (last_of (renewals s.log.records origin.queue_offset))) h.3;
            renewal = up.0;
            place = at.0;
            there = at.1;
            renews = kept_passes (is_renewal origin.queue_offset) s.log.records last.0 up.0 last.1;
            drafts_are = drafts ∙ up.2;
          })
    ]

-- ---- all events

pub event_discards : (s : State) (e : Events.Event) → IsKept s.log → is_refused s e ≡ false → NoDiscards (drafts_of s e) ⊎ GivesUp s e
unfolding drafts_of
event_discards s (Events.Asks a) kept fine = inl (asks_discards s a kept fine)
event_discards s (Events.Deliver now) kept fine = inl (deliver_discards s (max now s.now) (due_delayed s.log s.dispatched (max now s.now)) kept refl)
event_discards s (Events.Check now) kept fine = check_discards s now (due_origin s (max now s.now)) refl refl
event_discards s Events.Take kept fine = inl tt
event_discards s (Events.Flushed n) kept fine = inl tt
event_discards s (Events.FlushFailed n) kept fine = inl tt
event_discards s (Events.Look n t) kept fine = inl tt
event_discards s (Events.Dispatch n) kept fine = inl tt
event_discards s (Events.Leave n) kept fine = inl tt
event_discards s (Events.Trim base) kept fine = inl tt

-- a record of drafts that give nothing up is no discarded half message
pub none_discarded : (S now : ℕ) (log : Log) (drafts : List Draft) (k : ℕ) (r : Entry) → NoDiscards drafts → slice_get (next_records S now log drafts) k ≡ Some r → is_discard r ≡ false
none_discarded S now log [] k r none got = absurd (cc)
none_discarded S now log (d ∷ drafts) zero r none got = ap (λ (x : Entry). bytes_eq x.topic discard_topic) (sym (same_Some (next_record S now log d) r got)) ∙ none.0
none_discarded S now log (d ∷ drafts) (suc k) r none got = none_discarded S now (with_appended log (next_record S now log d ∷ [])) drafts k r none.1 got
