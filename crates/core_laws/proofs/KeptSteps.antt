-- Each step keeps the log: what an event appends fits.
use Rattle.std.proofs.Common.{◌≡◌, ◌⊎◌, inl, inr, refl, ap, sym, ◌∙◌, subst, ℕ, suc, ◌+◌, ◌-◌, ◌<◌, ◌^◌, max, List, [], ◌∷◌, length, slice_get, Bool, true, false, Option, Some, None, if◌then◌else◌, append_assoc}
use Rattle.std.specs.Prelude.{codes, ◌==◌, ◌&&◌, not, is_some, is_none, nat_lt, nat_le}
use Rattle.std.specs.List.{list_any}
use Rattle.std.specs.Str.{bytes_eq}
use Rattle.std.specs.Str.Parse.{digits_value}
use Rattle.std.proofs.lemmas.Bool.{or_parts, and_parts, ltb-false, cases_Bool, cond-true, cond-false}
use Rattle.std.proofs.lemmas.List.{append-nil}
use Rattle.std.proofs.lemmas.Option.{same_Some}
use Rattle.mq_bytes.specs.Delays.{level_delay}
use Rattle.record_codec.specs.Entry.{Entry}
use Rattle.record_codec.specs.Layout.{size, is_legal, are_hosts_short}
use Rattle.record_codec.specs.Drafts.{first_that_holds}
use Rattle.record_codec.specs.declared.draft.Draft.{Draft}
use Rattle.log_model.specs.Admissible.{is_system_topic, level_topic}
use Rattle.log_model.specs.Delays.{next_delayed, due_here, due_among, due_delayed, levels, progress}
use Rattle.log_model.specs.Drafts.{copy_draft, op_draft, renewal_draft, discard_draft}
use Rattle.log_model.specs.Kinds.{is_half, is_delayed, origin_text}
use Rattle.log_model.specs.Numbered.{Log, below, queue_min, records_of, with_appended, next_record, next_records}
use Rattle.log_model.specs.Transactions.{TransactionState, Open, Committed, RolledBack, Discarded, transaction_state, origins, last_of, renewals, is_renewal, is_origin, named_origin, origin_of}
use Rattle.request_fields.specs.Requests.{SendSaid, EndSaid}
use Rattle.request_fields.specs.declared.request.Request.{Request}
use Rattle.request_fields.specs.declared.request.Request.TheVariants.{Send, EndTransaction}
use Rattle.broker_model.specs.State.{State}
use Rattle.broker_model.specs.Sends.{flag_of, queue_named}
use Rattle.broker_model.specs.Tables.{queues_in}
use Rattle.broker_model.specs.Events
use Rattle.broker_model.specs.Refusals.{refusal_of, send_refusal, send_queues, plain_reply, named_half, verdict_origin, judged_origin, is_by_its_group}
use Rattle.broker_model.specs.Appended.{request_drafts, verdict_drafts, open_verdict, first_verdict, check_drafts, next_check, due_origin, is_due_origin, delivery_drafts, drafts_of, is_refused_request}
use Rattle.core_laws.specs.Kept.{IsKept}
use Rattle.core_laws.specs.KeptDrafts.{IsFitDraft}
use Rattle.core_laws.proofs.Lists.{get_take}
use Rattle.core_laws.proofs.KeptDrafts.{kept_next}
use Rattle.core_laws.proofs.Pulls.{kept_was_there, kept_passes}
use Rattle.core_laws.proofs.Texts.{found_at}
use Rattle.core_laws.proofs.DraftFits.{CanBeNamed, half_named, named_on, copy_fits, op_fits, discard_fits, renewal_fits, delivery_fits, send_fits}

-- ---- several drafts

-- each draft fits the log behind the records of those before it
abbrev pub AllFit : ℕ → ℕ → Log → List Draft → Type 0
AllFit S now log [] = Unit {0}
AllFit S now log (d ∷ drafts) = IsFitDraft log d × AllFit S now (with_appended log (next_record S now log d ∷ [])) drafts

-- a log with no record more
pub with_none : (log : Log) → log ≡ with_appended log []
with_none log = ap (λ (rs : List Entry). record { base = log.base; records = rs }) (sym (append-nil log.records))

pub kept_all : (S now : ℕ) (log : Log) (drafts : List Draft) → 0 < S → IsKept log → AllFit S now log drafts
    → list_any (λ r. nat_lt (2 ^ 62) (r.offset + size r)) (next_records S now log drafts) ≡ false → IsKept (with_appended log (next_records S now log drafts))
kept_all S now log [] some kept fit high = subst IsKept (with_none log) kept
kept_all S now log (d ∷ drafts) some kept fit high =
    let parts = or_parts (nat_lt (2 ^ 62) ((next_record S now log d).offset + size (next_record S now log d)))
    (list_any (λ r. nat_lt (2 ^ 62) (r.offset + size r)) (next_records S now (with_appended log (next_record S now log d ∷ [])) drafts)) high in
    let one = kept_next S now log d some kept fit.0 (ltb-false (2 ^ 62) _ parts.0) in
    let all = kept_all S now (with_appended log (next_record S now log d ∷ [])) drafts some one fit.1 parts.1 in
    subst (λ (rs : List Entry). IsKept (record { base = log.base; records = rs }))
    (append_assoc log.records (next_record S now log d ∷ []) (next_records S now (with_appended log (next_record S now log d ∷ [])) drafts)) all

-- ---- what each event appends

-- where no row holds, the sixth one doesn't
sixth_fails : (a b c d e f : Bool) (u v w x y z : Events.Reply) (more : List (Bool × Events.Reply))
    → first_that_holds ((a, u) ∷ (b, v) ∷ (c, w) ∷ (d, x) ∷ (e, y) ∷ (f, z) ∷ more) ≡ None → f ≡ false
sixth_fails true b c d e f u v w x y z more none = absurd (cc)
sixth_fails false true c d e f u v w x y z more none = absurd (cc)
sixth_fails false false true d e f u v w x y z more none = absurd (cc)
sixth_fails false false false true e f u v w x y z more none = absurd (cc)
sixth_fails false false false false true f u v w x y z more none = absurd (cc)
sixth_fails false false false false false true u v w x y z more none = absurd (cc)
sixth_fails false false false false false false u v w x y z more none = refl

-- a send that isn't refused is for a topic of clients
pub send_plain : (s : State) (send : SendSaid) → send_refusal s send ≡ None → is_system_topic send.topic ≡ false
send_plain s send none = sixth_fails (not (is_legal send.topic)) (not (are_hosts_short (flag_of send))) (nat_lt 4194304 (length send.body))
    (nat_lt 31999 (length send.props)) (nat_lt s.setup.segment (length send.body + length send.props + 1024)) (is_system_topic send.topic)
    (plain_reply 13 (codes "topic")) (plain_reply 13 (codes "sysFlag")) (plain_reply 13 (codes "body")) (plain_reply 13 (codes "properties"))
    (plain_reply 13 (codes "record")) (plain_reply 16 (codes "system topic"))
    ((is_none (queues_in s.topics send.topic) && (length send.default_topic == 0), plain_reply 17 (codes "no topic"))
    ∷ (not (nat_lt (queue_named send.queue) (send_queues s send)), plain_reply 1 (codes "queue")) ∷ []) none

-- the half message that a verdict names is one of the log
pub named_there : (s : State) (end : EndSaid) (half : Entry) → named_half s end ≡ Some half
    → (k : ℕ) × (slice_get s.log.records k ≡ Some half) × (is_half half ≡ true)
named_there s end half is =
    let there = found_at (λ r. is_half r && (r.queue_offset == end.queue_offset) && (r.offset == end.place)) s.log.records half is in
    let parts = and_parts (is_half half && (half.queue_offset == end.queue_offset)) (half.offset == end.place) there.2 in
    (there.0, there.1, (and_parts (is_half half) (half.queue_offset == end.queue_offset) parts.0).0)

-- so is the origin of the half message
origin_there : (log : List Entry) (k : ℕ) (half origin : Entry) → slice_get log k ≡ Some half → is_half half ≡ true → origin_of log half ≡ Some origin
    → (j : ℕ) × (slice_get log j ≡ Some origin) × (is_half origin ≡ true)
origin_there log k half origin at is found = by_text (origin_text half) found
  where
    by_text : (text : Option (List ℕ)) → named_origin log text half ≡ Some origin → (j : ℕ) × (slice_get log j ≡ Some origin) × (is_half origin ≡ true)
    by_text None own = let same = same_Some half origin own in
        (k, subst (λ (r : Entry). slice_get log k ≡ Some r) same at, subst (λ (r : Entry). is_half r ≡ true) same is)
    by_text (Some text) named =
        let there = found_at (is_origin (digits_value 10 text)) log origin named in
        let parts = and_parts (is_half origin && is_none (origin_text origin)) (origin.queue_offset == digits_value 10 text) there.2 in
        (there.0, there.1, (and_parts (is_half origin) (is_none (origin_text origin)) parts.0).0)

-- and the origin that a verdict is on
judged_there : (s : State) (end : EndSaid) (half : Option Entry) (origin : Entry) → IsKept s.log → named_half s end ≡ half
    → judged_origin s.log.records end half ≡ Some origin → CanBeNamed s.log origin.queue_offset
judged_there s end None origin kept named is = absurd (cc)
judged_there s end (Some half) origin kept named is =
    let there = named_there s end half named in
    let at = origin_there s.log.records there.0 half origin there.1 there.2 (by_group (is_by_its_group end half) is) in
    half_named s.log at.0 origin kept at.1 at.2
  where
    by_group : (b : Bool) → (if b then origin_of s.log.records half else None) ≡ Some origin → origin_of s.log.records half ≡ Some origin
    by_group true found = found
    by_group false found = absurd (cc)

open_fits : (s : State) (S now time verdict : ℕ) (half origin : Entry) (k : ℕ) → IsKept s.log → slice_get s.log.records k ≡ Some half → is_half half ≡ true
    → CanBeNamed s.log origin.queue_offset → AllFit S now s.log (open_verdict s time verdict half origin)
open_fits s S now time verdict half origin k kept at is can =
    elim (verdict == 8) as (λ b. AllFit S now s.log (if b then copy_draft s.setup.host half ∷ op_draft s.setup.host time origin.queue_offset ∷ []
    else (if verdict == 12 then op_draft s.setup.host time origin.queue_offset ∷ [] else []))) [
      | true ↦ (copy_fits s.log s.setup.host half k kept at is, (op_fits _ s.setup.host time origin.queue_offset (named_on s.log _ origin.queue_offset can), tt))
      | false ↦ elim (verdict == 12) as (λ b. AllFit S now s.log (if b then op_draft s.setup.host time origin.queue_offset ∷ [] else [])) [
        | true ↦ (op_fits s.log s.setup.host time origin.queue_offset can, tt)
        | false ↦ tt
      ]
    ]

first_fits : (S now : ℕ) (log : Log) (state : TransactionState) (drafts : List Draft) → AllFit S now log drafts → AllFit S now log (first_verdict state drafts)
first_fits S now log Open drafts fit = fit
first_fits S now log Committed drafts fit = tt
first_fits S now log RolledBack drafts fit = tt
first_fits S now log Discarded drafts fit = tt

verdict_fits : (s : State) (S now time verdict : ℕ) (half origin : Option Entry) → IsKept s.log
    → ((r : Entry) → half ≡ Some r → (k : ℕ) × (slice_get s.log.records k ≡ Some r) × (is_half r ≡ true))
    → ((r : Entry) → origin ≡ Some r → CanBeNamed s.log r.queue_offset) → AllFit S now s.log (verdict_drafts s time verdict half origin)
verdict_fits s S now time verdict None origin kept there can = tt
verdict_fits s S now time verdict (Some half) None kept there can = tt
verdict_fits s S now time verdict (Some half) (Some origin) kept there can =
    let h = there half refl in
    first_fits S now s.log (transaction_state s.log.records origin.queue_offset) _ (open_fits s S now time verdict half origin h.0 kept h.1 h.2 (can origin refl))

request_fits : (s : State) (S now time : ℕ) (host : List ℕ) (r : Request) → IsKept s.log → refusal_of s r ≡ None → AllFit S now s.log (request_drafts s time host r)
unfolding refusal_of
request_fits s S now time host (Send send) kept none = (send_fits s.log s.setup.host host send (send_plain s send none), tt)
request_fits s S now time host (EndTransaction end) kept none =
    verdict_fits s S now time end.verdict (named_half s end) (verdict_origin s end) kept (λ r is. named_there s end r is)
    (λ r is. judged_there s end (named_half s end) r kept refl is)
request_fits s S now time host _ kept none = tt

-- the last of some records is one of them
pub last_there : (records : List Entry) (r : Entry) → last_of records ≡ Some r → (k : ℕ) × (slice_get records k ≡ Some r)
last_there [] r is = absurd (cc)
last_there (x ∷ []) r is = (0, is)
last_there (x ∷ y ∷ more) r is = let there = last_there (y ∷ more) r is in (suc there.0, there.1)

next_fits : (s : State) (S now time : ℕ) (origin : Entry) (k : ℕ) (asked : List Entry) (last : Option Entry) → IsKept s.log
    → slice_get s.log.records k ≡ Some origin → is_half origin ≡ true → ((r : Entry) → last ≡ Some r → (j : ℕ) × (slice_get s.log.records j ≡ Some r))
    → AllFit S now s.log (next_check s time origin asked last)
next_fits s S now time origin k asked None kept at is there = (renewal_fits s.log s.setup.host 1 origin k kept at is, tt)
next_fits s S now time origin k asked (Some renewal) kept at is there =
    let h = there renewal refl in
    elim (nat_lt (length asked) 15) as (λ b. AllFit S now s.log (if b then renewal_draft s.setup.host (length asked + 1) origin ∷ []
    else discard_draft s.setup.host renewal ∷ op_draft s.setup.host time origin.queue_offset ∷ [])) [
      | true ↦ (renewal_fits s.log s.setup.host (length asked + 1) origin k kept at is, tt)
      | false ↦ (
        discard_fits s.log s.setup.host renewal h.0 kept h.1,
        (op_fits _ s.setup.host time origin.queue_offset (named_on s.log _ origin.queue_offset (half_named s.log k origin kept at is)), tt),
      )
    ]

-- the origin that is due is a half message of the log
pub due_there : (s : State) (time : ℕ) (origin : Entry) → due_origin s time ≡ Some origin
    → (k : ℕ) × (slice_get s.log.records k ≡ Some origin) × (is_half origin ≡ true) × (is_due_origin s.log.records time origin ≡ true)
due_there s time origin is =
    let found = found_at (is_due_origin s.log.records time) (origins s.log.records) origin is in
    let kept = kept_was_there (λ r. is_half r && is_none (origin_text r)) s.log.records found.0 origin found.1 in
    let passes = kept_passes (λ r. is_half r && is_none (origin_text r)) s.log.records found.0 origin found.1 in
    (kept.0, kept.1, (and_parts (is_half origin) (is_none (origin_text origin)) passes).0, found.2)

check_fits : (s : State) (S now time : ℕ) (due : Option Entry) → IsKept s.log
    → ((r : Entry) → due ≡ Some r → (k : ℕ) × (slice_get s.log.records k ≡ Some r) × (is_half r ≡ true) × (is_due_origin s.log.records time r ≡ true))
    → AllFit S now s.log (check_drafts s time due)
check_fits s S now time None kept there = tt
check_fits s S now time (Some origin) kept there =
    let h = there origin refl in
    next_fits s S now time origin h.0 (renewals s.log.records origin.queue_offset) (last_of (renewals s.log.records origin.queue_offset)) kept h.1 h.2
    (λ r is. let last = last_there (renewals s.log.records origin.queue_offset) r is in kept_was_there (is_renewal origin.queue_offset) s.log.records last.0 r last.1)

-- what is due of a level is a delayed message of the log
pub delayed_there : (log : Log) (d level : ℕ) (item : Entry) → next_delayed log d level ≡ Some item
    → (k : ℕ) × (slice_get log.records k ≡ Some item) × (is_delayed item ≡ true)
delayed_there log d level item is = elim (cases_Bool (nat_lt (progress log level) (queue_min (below log d) level_topic (level - 1)))) [
  | inl low ↦ absurd (let none : None ≡ Some item = sym (cond-true (nat_lt (progress log level) (queue_min (below log d) level_topic (level - 1))) None (slice_get (records_of (below log d) level_topic (level - 1)) (progress log level - queue_min (below log d) level_topic (level - 1))) low) ∙ is in cc)
  | inr high ↦
      let got : slice_get (records_of (below log d) level_topic (level - 1)) (progress log level - queue_min (below log d) level_topic (level - 1)) ≡ Some item =
      sym (cond-false (nat_lt (progress log level) (queue_min (below log d) level_topic (level - 1))) None (slice_get (records_of (below log d) level_topic (level - 1)) (progress log level - queue_min (below log d) level_topic (level - 1))) high) ∙ is in
      let kept = kept_was_there (λ r. bytes_eq r.topic level_topic && (r.queue == (level - 1))) (below log d).records (progress log level - queue_min (below log d) level_topic (level - 1)) item got in
      let passes = kept_passes (λ r. bytes_eq r.topic level_topic && (r.queue == (level - 1))) (below log d).records (progress log level - queue_min (below log d) level_topic (level - 1)) item got in
      (kept.0, (get_take (d - log.base.records) kept.0 log.records item kept.1).0, (and_parts (is_delayed item) (item.queue == (level - 1)) passes).0)
]

here_there : (log : Log) (d now level : ℕ) (next : Option Entry) (more : Option (ℕ × Entry)) (due : ℕ × Entry)
    → due_here now level next more ≡ Some due → (more ≡ Some due) ⊎ ((next ≡ Some due.1) × (due.0 ≡ level))
here_there log d now level None more due is = inl is
here_there log d now level (Some r) more due is = (elim (nat_le (r.store + level_delay level) now) as (λ b. (if b then Some (level, r) else more) ≡ Some due
    → (more ≡ Some due) ⊎ ((Some r ≡ Some due.1) × (due.0 ≡ level))) [
      | true ↦ λ e. inr (let same = same_Some (level, r) due e in (ap (λ (p : ℕ × Entry). Some p.1) same, ap (λ (p : ℕ × Entry). p.0) (sym same)))
      | false ↦ λ e. inl e
    ]) is

pub among_there : (log : Log) (d now : ℕ) (some : List ℕ) (due : ℕ × Entry) → due_among log d now some ≡ Some due
    → (k : ℕ) × (slice_get log.records k ≡ Some due.1) × (is_delayed due.1 ≡ true)
among_there log d now [] due is = absurd (cc)
among_there log d now (level ∷ more) due is = elim (here_there log d now level (next_delayed log d level) (due_among log d now more) due is) [
  | inl later ↦ among_there log d now more due later
  | inr here ↦ delayed_there log d level due.1 here.0
]

deliver_fits : (s : State) (S now : ℕ) (due : Option (ℕ × Entry)) → IsKept s.log
    → ((x : ℕ × Entry) → due ≡ Some x → (k : ℕ) × (slice_get s.log.records k ≡ Some x.1) × (is_delayed x.1 ≡ true)) → AllFit S now s.log (delivery_drafts s due)
deliver_fits s S now None kept there = tt
deliver_fits s S now (Some due) kept there =
    let h = there due refl in (delivery_fits s.log s.setup.host due.0 (progress s.log due.0) due.1 h.0 kept h.1 h.2, tt)

pub event_fits : (s : State) (S now : ℕ) (e : Events.Event) → IsKept s.log → is_refused_request s e ≡ false → AllFit S now s.log (drafts_of s e)
unfolding drafts_of
event_fits s S now (Events.Asks a) kept fine = request_fits s S now (max a.now s.now) a.host a.request kept (not_some (refusal_of s a.request) fine)
  where
    not_some : (o : Option Events.Reply) → is_some o ≡ false → o ≡ None
    not_some None fine = refl
    not_some (Some r) fine = absurd (cc)
event_fits s S now (Events.Deliver time) kept fine = deliver_fits s S now (due_delayed s.log s.dispatched (max time s.now)) kept
    (λ x is. among_there s.log s.dispatched (max time s.now) levels x is)
event_fits s S now (Events.Check time) kept fine = check_fits s S now (max time s.now) (due_origin s (max time s.now)) kept
    (λ r is. due_there s (max time s.now) r is)
event_fits s S now _ kept fine = tt
