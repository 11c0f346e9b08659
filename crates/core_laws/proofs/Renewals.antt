-- Only a check of an origin that isn't settled renews a half message.
use Rattle.std.proofs.Common.{◌≡◌, ◌⊎◌, inl, inr, refl, ap, sym, ◌∙◌, subst, ℕ, zero, suc, ◌+◌, ◌<◌, ◌^◌, max, List, [], ◌∷◌, slice_get, Bool, true, false, Option, Some, None, if◌then◌else◌}
use Rattle.std.specs.Prelude.{codes, ◌==◌, nat_lt, length}
use Rattle.std.specs.Str.{bytes_eq}
use Rattle.std.proofs.lemmas.Bool.{and_parts}
use Rattle.std.proofs.lemmas.Option.{same_Some}
use Rattle.mq_bytes.specs.Decimal.{digits_of}
use Rattle.record_codec.specs.Entry.{Entry}
use Rattle.record_codec.specs.Props.{value_of, with_prop}
use Rattle.record_codec.specs.declared.draft.Draft.{Draft}
use Rattle.record_codec.proofs.LastLemmas.{value_of-put, value_of-other}
use Rattle.log_model.specs.Admissible.{half_topic}
use Rattle.log_model.specs.Delays.{due_delayed, levels}
use Rattle.log_model.specs.Drafts.{text_in, copy_draft, op_draft, renewal_draft, renewed_props, discard_draft}
use Rattle.log_model.specs.Kinds.{is_half, is_delayed, is_text, origin_text}
use Rattle.log_model.specs.Numbered.{Log, with_appended, next_record, next_records}
use Rattle.log_model.specs.Transactions.{TransactionState, Open, Committed, RolledBack, Discarded, transaction_state, is_renewal, renewals, last_of, is_settled}
use Rattle.request_fields.specs.Requests.{SendSaid}
use Rattle.request_fields.specs.declared.request.Request.{Request}
use Rattle.request_fields.specs.declared.request.Request.TheVariants.{Send, EndTransaction}
use Rattle.broker_model.specs.State.{State}
use Rattle.broker_model.specs.Sends.{send_draft, half_draft, delayed_or_plain, plain_draft, is_half_send, level_of, queue_named}
use Rattle.broker_model.specs.Events
use Rattle.broker_model.specs.Refusals.{refusal_of, named_half, verdict_origin}
use Rattle.broker_model.specs.Appended.{request_drafts, verdict_drafts, open_verdict, first_verdict, check_drafts, next_check, due_origin, is_asked_at, delivery_drafts, drafts_of, made_by, is_refused, moment}
use Rattle.core_laws.specs.Kept.{IsKept}
use Rattle.core_laws.proofs.Discards.{left_of, right_of, unsettled}
use Rattle.core_laws.proofs.DraftFits.{differ, topic_apart, half_text}
use Rattle.core_laws.proofs.KeptSteps.{named_there, send_plain, due_there, among_there}
use Rattle.core_laws.proofs.Texts.{same_text, number_once}
use Rattle.core_laws.proofs.Verdicts.{no_row}

-- none of the drafts is a renewal
abbrev pub NoRenewals : List Draft → Type 0
NoRenewals [] = Unit {0}
NoRenewals (d ∷ drafts) = (bytes_eq d.topic half_topic ≡ true → value_of (codes "TRAN_PREPARED_QUEUE_OFFSET") d.props ≡ None) × NoRenewals drafts

-- an origin that isn't settled is renewed
pub record Renews (s : State) (e : Events.Event) : Type 0 where
  pub origin : Entry
  pub index : ℕ
  pub stands : slice_get s.log.records index ≡ Some origin
  pub is_half : is_half origin ≡ true
  pub unsettled : is_settled s.log.records origin.queue_offset ≡ false
  pub number : ℕ
  pub drafts_are : drafts_of s e ≡ renewal_draft s.setup.host number origin ∷ []

-- a record of another topic is none
other_topic : (b : Bool) (text : Option (List ℕ)) → b ≡ false → b ≡ true → text ≡ None
other_topic b text fails holds = absurd (let e : false ≡ true = sym fails ∙ holds in cc)

-- ---- requests and deliveries

send_renews : (host born : List ℕ) (send : SendSaid) → bytes_eq send.topic half_topic ≡ false
    → bytes_eq (send_draft host born send).topic half_topic ≡ true → value_of (codes "TRAN_PREPARED_QUEUE_OFFSET") (send_draft host born send).props ≡ None
send_renews host born send plain =
    elim (is_half_send send) as (λ b. bytes_eq (if b then half_draft send.group (plain_draft host born send) else delayed_or_plain (level_of send) (plain_draft host born send)).topic half_topic ≡ true
    → value_of (codes "TRAN_PREPARED_QUEUE_OFFSET") (if b then half_draft send.group (plain_draft host born send) else delayed_or_plain (level_of send) (plain_draft host born send)).props ≡ None) [
      | true ↦ λ is. half_text send.group send.topic (queue_named send.queue) send.props
      | false ↦ elim (level_of send) as (λ level. bytes_eq (delayed_or_plain level (plain_draft host born send)).topic half_topic ≡ true
          → value_of (codes "TRAN_PREPARED_QUEUE_OFFSET") (delayed_or_plain level (plain_draft host born send)).props ≡ None) [
            | None ↦ λ is. other_topic (bytes_eq send.topic half_topic) _ plain is
            | Some level ↦ λ is. absurd (cc)
          ]
    ]

open_renews : (s : State) (time verdict : ℕ) (half origin : Entry) (k : ℕ) → IsKept s.log → slice_get s.log.records k ≡ Some half → is_half half ≡ true
    → NoRenewals (open_verdict s time verdict half origin)
open_renews s time verdict half origin k kept at is =
    elim (verdict == 8) as (λ b. NoRenewals (if b then copy_draft s.setup.host half ∷ op_draft s.setup.host time origin.queue_offset ∷ []
    else (if verdict == 12 then op_draft s.setup.host time origin.queue_offset ∷ [] else []))) [
      | true ↦ (
        other_topic _ _ ((topic_apart (text_in (codes "REAL_TOPIC") half.props) ((kept.each k half at).real (left_of (is_half half) (is_delayed half) is))).half),
        (other_topic _ _ refl, tt),
      )
      | false ↦ elim (verdict == 12) as (λ b. NoRenewals (if b then op_draft s.setup.host time origin.queue_offset ∷ [] else [])) [
        | true ↦ (other_topic _ _ refl, tt)
        | false ↦ tt
      ]
    ]

first_renews : (state : TransactionState) (drafts : List Draft) → NoRenewals drafts → NoRenewals (first_verdict state drafts)
first_renews Open drafts none = none
first_renews Committed drafts none = tt
first_renews RolledBack drafts none = tt
first_renews Discarded drafts none = tt

verdict_renews : (s : State) (time verdict : ℕ) (half origin : Option Entry) → IsKept s.log
    → ((r : Entry) → half ≡ Some r → (k : ℕ) × (slice_get s.log.records k ≡ Some r) × (is_half r ≡ true)) → NoRenewals (verdict_drafts s time verdict half origin)
verdict_renews s time verdict None origin kept there = tt
verdict_renews s time verdict (Some half) None kept there = tt
verdict_renews s time verdict (Some half) (Some origin) kept there =
    let h = there half refl in
    first_renews (transaction_state s.log.records origin.queue_offset) _ (open_renews s time verdict half origin h.0 kept h.1 h.2)

request_renews : (s : State) (time : ℕ) (host : List ℕ) (r : Request) → IsKept s.log → refusal_of s r ≡ None → NoRenewals (request_drafts s time host r)
unfolding refusal_of
request_renews s time host (Send send) kept none = (send_renews s.setup.host host send (topic_apart send.topic (send_plain s send none)).half, tt)
request_renews s time host (EndTransaction end) kept none =
    verdict_renews s time end.verdict (named_half s end) (verdict_origin s end) kept (λ r is. named_there s end r is)
request_renews s time host _ kept none = tt

asks_renews : (s : State) (a : Events.Asked) → IsKept s.log → is_refused s (Events.Asks a) ≡ false → NoRenewals (drafts_of s (Events.Asks a))
unfolding drafts_of
asks_renews s a kept fine = request_renews s (max a.now s.now) a.host a.request kept (no_row s a fine)

deliver_renews : (s : State) (now : ℕ) (due : Option (ℕ × Entry)) → IsKept s.log → due_delayed s.log s.dispatched now ≡ due → NoRenewals (delivery_drafts s due)
deliver_renews s now None kept is = tt
deliver_renews s now (Some due) kept is =
    let h = among_there s.log s.dispatched now levels due is in
    (other_topic _ _ ((topic_apart (text_in (codes "REAL_TOPIC") due.1.props) ((kept.each h.0 due.1 h.1).real (right_of (is_half due.1) (is_delayed due.1) h.2))).half), tt)

-- ---- checks

next_renews : (s : State) (time : ℕ) (origin : Entry) (asked : List Entry) (last : Option Entry)
    → NoRenewals (next_check s time origin asked last) ⊎ ((n : ℕ) × (next_check s time origin asked last ≡ renewal_draft s.setup.host n origin ∷ []))
next_renews s time origin asked None = inr (1, refl)
next_renews s time origin asked (Some renewal) = by (nat_lt (length asked) 15)
  where
    by : (b : Bool) → NoRenewals (if b then renewal_draft s.setup.host (length asked + 1) origin ∷ []
        else discard_draft s.setup.host renewal ∷ op_draft s.setup.host time origin.queue_offset ∷ [])
        ⊎ ((n : ℕ) × ((if b then renewal_draft s.setup.host (length asked + 1) origin ∷ []
        else discard_draft s.setup.host renewal ∷ op_draft s.setup.host time origin.queue_offset ∷ []) ≡ renewal_draft s.setup.host n origin ∷ []))
    by true = inr (length asked + 1, refl)
    by false = inl (other_topic false (value_of (codes "TRAN_PREPARED_QUEUE_OFFSET") renewal.props) refl, (other_topic false None refl, tt))

check_renews : (s : State) (now : ℕ) (due : Option Entry) → due_origin s (max now s.now) ≡ due → drafts_of s (Events.Check now) ≡ check_drafts s (max now s.now) due
    → NoRenewals (check_drafts s (max now s.now) due) ⊎ Renews s (Events.Check now)
check_renews s now None is drafts = inl tt
check_renews s now (Some origin) is drafts =
    let h = due_there s (max now s.now) origin is in
    elim (next_renews s (max now s.now) origin (renewals s.log.records origin.queue_offset) (last_of (renewals s.log.records origin.queue_offset))) [
      | inl none ↦ inl none
      | inr up ↦ inr (record {
        origin = origin;
        index = h.0;
        stands = h.1;
        is_half = h.2;
        unsettled = unsettled (is_settled s.log.records origin.queue_offset) (is_asked_at (max now s.now) origin (last_of (renewals s.log.records origin.queue_offset))) h.3;
        number = up.0;
        drafts_are = drafts ∙ up.1;
      })
    ]

-- ---- all events

event_renews : (s : State) (e : Events.Event) → IsKept s.log → is_refused s e ≡ false → NoRenewals (drafts_of s e) ⊎ Renews s e
unfolding drafts_of
event_renews s (Events.Asks a) kept fine = inl (asks_renews s a kept fine)
event_renews s (Events.Deliver now) kept fine = inl (deliver_renews s (max now s.now) (due_delayed s.log s.dispatched (max now s.now)) kept refl)
event_renews s (Events.Check now) kept fine = check_renews s now (due_origin s (max now s.now)) refl refl
event_renews s Events.Take kept fine = inl tt
event_renews s (Events.Flushed n) kept fine = inl tt
event_renews s (Events.FlushFailed n) kept fine = inl tt
event_renews s (Events.Look n t) kept fine = inl tt
event_renews s (Events.Dispatch n) kept fine = inl tt
event_renews s (Events.Leave n) kept fine = inl tt
event_renews s (Events.Trim base) kept fine = inl tt

-- a record of such drafts is no renewal
none_renewed : (S now : ℕ) (log : Log) (drafts : List Draft) (h k : ℕ) (r : Entry) → NoRenewals drafts → slice_get (next_records S now log drafts) k ≡ Some r
    → is_renewal h r ≡ true → ⊥
none_renewed S now log [] h k r none got is = absurd (cc)
none_renewed S now log (d ∷ drafts) h zero r none got is =
    let same : next_record S now log d ≡ r = same_Some (next_record S now log d) r got in
    let parts = and_parts (is_half (next_record S now log d)) (is_text (digits_of h) (origin_text (next_record S now log d)))
    (subst (λ (x : Entry). is_renewal h x ≡ true) (sym same) is) in
    let none_there : value_of (codes "TRAN_PREPARED_QUEUE_OFFSET") d.props ≡ None = none.0 parts.0 in
    let e : false ≡ true = sym (ap (λ (o : Option (List ℕ)). is_text (digits_of h) o) none_there) ∙ parts.1 in cc
none_renewed S now log (d ∷ drafts) h (suc k) r none got is = none_renewed S now (with_appended log (next_record S now log d ∷ [])) drafts h k r none.1 got is

-- a renewal that an event makes is of an origin that isn't settled
pub new_renewal : (s : State) (e : Events.Event) (h k : ℕ) (r : Entry) → IsKept s.log → is_refused s e ≡ false → h < 2 ^ 64 → slice_get (made_by s e) k ≡ Some r
    → is_renewal h r ≡ true → is_settled s.log.records h ≡ false
new_renewal s e h k r kept fine low got is = elim (event_renews s e kept fine) [
  | inl none ↦ absurd (none_renewed s.setup.segment (moment s e) s.log (drafts_of s e) h k r none got is)
  | inr up ↦ only up k (subst (λ (ds : List Draft). slice_get (next_records s.setup.segment (moment s e) s.log ds) k ≡ Some r) up.drafts_are got)
]
  where
    only : (up : Renews s e) (k : ℕ) → slice_get (next_records s.setup.segment (moment s e) s.log (renewal_draft s.setup.host up.number up.origin ∷ [])) k ≡ Some r
        → is_settled s.log.records h ≡ false
    only up zero got =
        let origin : Entry = up.origin in
        let text : value_of (codes "TRAN_PREPARED_QUEUE_OFFSET") (renewed_props up.number origin) ≡ Some (digits_of origin.queue_offset) =
        value_of-other (codes "TRAN_PREPARED_QUEUE_OFFSET") (codes "TRANSACTION_CHECK_TIMES") (digits_of up.number) (with_prop (codes "TRAN_PREPARED_QUEUE_OFFSET") (digits_of origin.queue_offset) origin.props) (differ _ _ refl)
        ∙ value_of-put (codes "TRAN_PREPARED_QUEUE_OFFSET") (digits_of origin.queue_offset) origin.props in
        let same = same_Some (next_record s.setup.segment (moment s e) s.log (renewal_draft s.setup.host up.number origin)) r got in
        let named = (and_parts (is_half r) (is_text (digits_of h) (origin_text r)) is).1 in
        let value : origin_text r ≡ Some (digits_of origin.queue_offset) = ap origin_text (sym same) ∙ text in
        let one : origin.queue_offset ≡ h = number_once origin.queue_offset h ((kept.each up.index origin up.stands).low up.is_half) low
        (same_text (digits_of origin.queue_offset) (digits_of h) (subst (λ (o : Option (List ℕ)). is_text (digits_of h) o ≡ true) value named)) in
        subst (λ (n : ℕ). is_settled s.log.records n ≡ false) one up.unsettled
    only up (suc k) got = absurd (cc)
