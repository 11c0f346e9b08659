-- Which events append a copy: only a Commit of an open origin.
use Rattle.std.proofs.Common.{◌≡◌, ◌⊎◌, inl, inr, refl, ap, sym, ◌∙◌, ℕ, ◌+◌, max, List, [], ◌∷◌, length, Bool, true, false, Option, Some, None, if◌then◌else◌}
use Rattle.std.specs.Prelude.{◌||◌, ◌==◌, bit_and, nat_lt}
use Rattle.std.proofs.lemmas.Bool.{eqb-true}
use Rattle.record_codec.specs.Entry.{Entry}
use Rattle.record_codec.specs.declared.draft.Draft.{Draft}
use Rattle.log_model.specs.Drafts.{copy_draft, op_draft, renewal_draft, discard_draft, plain_flag}
use Rattle.log_model.specs.Kinds.{is_half, is_delayed}
use Rattle.log_model.specs.Delays.{due_delayed, levels}
use Rattle.log_model.specs.Transactions.{TransactionState, Open, Committed, RolledBack, Discarded, transaction_state, last_of, renewals, origin_of}
use Rattle.request_fields.specs.Requests.{SendSaid, EndSaid}
use Rattle.request_fields.specs.declared.request.Request.{Request}
use Rattle.request_fields.specs.declared.request.Request.TheVariants.{Send, EndTransaction}
use Rattle.broker_model.specs.State.{State}
use Rattle.broker_model.specs.Sends.{send_draft, half_draft, delayed_or_plain, plain_draft, is_half_send, level_of, flag_of}
use Rattle.broker_model.specs.Events
use Rattle.broker_model.specs.Refusals.{named_half, verdict_origin, judged_origin, is_by_its_group}
use Rattle.broker_model.specs.Appended.{request_drafts, verdict_drafts, open_verdict, first_verdict, check_drafts, next_check, due_origin, delivery_drafts, drafts_of, is_refused, moment}
use Rattle.core_laws.specs.Kept.{IsKept}
use Rattle.core_laws.specs.Halves.{in_family, IsCommitOf}
use Rattle.core_laws.proofs.Families.{own_family}
use Rattle.core_laws.proofs.KeptSteps.{named_there, due_there, among_there}
use Rattle.core_laws.proofs.Texts.{plain_bits}

-- none of the drafts is a copy's
abbrev pub NoCopies : List Draft → Type 0
NoCopies [] = Unit {0}
NoCopies (d ∷ drafts) = ((bit_and d.sysflag 12 == 8) ≡ false) × NoCopies drafts

no_copy : (flag : ℕ) → bit_and flag 12 ≡ 0 → (bit_and flag 12 == 8) ≡ false
no_copy flag bits = ap (λ (n : ℕ). n == 8) bits

-- what a verdict on an open origin writes of a Commit
pub record IsCommitMade (s : State) (end : EndSaid) (time : ℕ) (drafts : List Draft) : Type 0 where
  pub half : Entry
  pub origin : Entry
  pub verdict : end.verdict ≡ 8
  pub named : named_half s end ≡ Some half
  pub judged : verdict_origin s end ≡ Some origin
  pub was_open : transaction_state s.log.records origin.queue_offset ≡ Open
  pub drafts_are : drafts ≡ copy_draft s.setup.host half ∷ op_draft s.setup.host time origin.queue_offset ∷ []

-- ---- requests

send_copies : (host born : List ℕ) (send : SendSaid) → (bit_and (send_draft host born send).sysflag 12 == 8) ≡ false
send_copies host born send =
    elim (is_half_send send) as (λ b. (bit_and (if b then half_draft send.group (plain_draft host born send) else delayed_or_plain (level_of send) (plain_draft host born send)).sysflag 12 == 8) ≡ false) [
      | true ↦ no_copy (plain_flag (flag_of send)) (plain_bits (flag_of send))
      | false ↦ elim (level_of send) as (λ level. (bit_and (delayed_or_plain level (plain_draft host born send)).sysflag 12 == 8) ≡ false) [
        | None ↦ no_copy (plain_flag (flag_of send)) (plain_bits (flag_of send))
        | Some level ↦ no_copy (plain_flag (flag_of send)) (plain_bits (flag_of send))
      ]
    ]

-- a verdict writes a copy where it is 8
open_copies : (s : State) (time verdict : ℕ) (half origin : Entry) (eight twelve : Bool) → (verdict == 8) ≡ eight → (verdict == 12) ≡ twelve
    → NoCopies (if eight then copy_draft s.setup.host half ∷ op_draft s.setup.host time origin.queue_offset ∷ [] else (if twelve then op_draft s.setup.host time origin.queue_offset ∷ [] else []))
    ⊎ ((verdict ≡ 8) × ((if eight then copy_draft s.setup.host half ∷ op_draft s.setup.host time origin.queue_offset ∷ [] else (if twelve then op_draft s.setup.host time origin.queue_offset ∷ [] else []))
    ≡ copy_draft s.setup.host half ∷ op_draft s.setup.host time origin.queue_offset ∷ []))
open_copies s time verdict half origin true twelve is also = inr (eqb-true verdict 8 is, refl)
open_copies s time verdict half origin false true is also = inl (refl, tt)
open_copies s time verdict half origin false false is also = inl tt

first_copies : (s : State) (end : EndSaid) (time : ℕ) (half origin : Entry) (state : TransactionState) → named_half s end ≡ Some half → verdict_origin s end ≡ Some origin
    → transaction_state s.log.records origin.queue_offset ≡ state
    → NoCopies (first_verdict state (open_verdict s time end.verdict half origin)) ⊎ IsCommitMade s end time (first_verdict state (open_verdict s time end.verdict half origin))
first_copies s end time half origin Open named judged is = elim (open_copies s time end.verdict half origin (end.verdict == 8) (end.verdict == 12) refl refl) [
  | inl none ↦ inl none
  | inr copy ↦ inr (record { half = half; origin = origin; verdict = copy.0; named = named; judged = judged; was_open = is; drafts_are = copy.1 })
]
first_copies s end time half origin Committed named judged is = inl tt
first_copies s end time half origin RolledBack named judged is = inl tt
first_copies s end time half origin Discarded named judged is = inl tt

verdict_copies : (s : State) (end : EndSaid) (time : ℕ) (half origin : Option Entry) → named_half s end ≡ half → verdict_origin s end ≡ origin
    → NoCopies (verdict_drafts s time end.verdict half origin) ⊎ IsCommitMade s end time (verdict_drafts s time end.verdict half origin)
verdict_copies s end time None origin named judged = inl tt
verdict_copies s end time (Some half) None named judged = inl tt
verdict_copies s end time (Some half) (Some origin) named judged = first_copies s end time half origin (transaction_state s.log.records origin.queue_offset) named judged refl

-- a Commit of this request, or no copy
pub RequestCopies : State → ℕ → List ℕ → Request → Type 0
RequestCopies s time host r = NoCopies (request_drafts s time host r) ⊎ ((end : EndSaid) × (r ≡ EndTransaction end) × IsCommitMade s end time (request_drafts s time host r))

request_copies : (s : State) (time : ℕ) (host : List ℕ) (r : Request) → RequestCopies s time host r
unfolding RequestCopies
request_copies s time host (Send send) = inl (send_copies s.setup.host host send, tt)
request_copies s time host (EndTransaction end) = elim (verdict_copies s end time (named_half s end) (verdict_origin s end) refl refl) [
  | inl none ↦ inl none
  | inr commit ↦ inr (end, refl, commit)
]
request_copies s time host _ = inl tt

-- ---- checks and deliveries

next_copies : (s : State) (time : ℕ) (origin : Entry) (asked : List Entry) (last : Option Entry) → bit_and origin.sysflag 12 ≡ 0 → NoCopies (next_check s time origin asked last)
next_copies s time origin asked None bits = (no_copy origin.sysflag bits, tt)
next_copies s time origin asked (Some renewal) bits = elim (nat_lt (length asked) 15) as (λ b. NoCopies (if b then renewal_draft s.setup.host (length asked + 1) origin ∷ []
    else discard_draft s.setup.host renewal ∷ op_draft s.setup.host time origin.queue_offset ∷ [])) [
      | true ↦ (no_copy origin.sysflag bits, tt)
      | false ↦ (no_copy (plain_flag renewal.sysflag) (plain_bits renewal.sysflag), (refl, tt))
    ]

left_of : (a b : Bool) → a ≡ true → (a || b) ≡ true
left_of true b is = refl
left_of false b is = absurd (cc)

right_of : (a b : Bool) → b ≡ true → (a || b) ≡ true
right_of true b is = refl
right_of false b is = is

check_copies : (s : State) (time : ℕ) (due : Option Entry) → IsKept s.log → due_origin s time ≡ due → NoCopies (check_drafts s time due)
check_copies s time None kept is = tt
check_copies s time (Some origin) kept is =
    let h = due_there s time origin is in
    next_copies s time origin (renewals s.log.records origin.queue_offset) (last_of (renewals s.log.records origin.queue_offset))
    ((kept.each h.0 origin h.1).bits (left_of (is_half origin) (is_delayed origin) h.2))

deliver_copies : (s : State) (now : ℕ) (due : Option (ℕ × Entry)) → IsKept s.log → due_delayed s.log s.dispatched now ≡ due → NoCopies (delivery_drafts s due)
deliver_copies s now None kept is = tt
deliver_copies s now (Some due) kept is =
    let h = among_there s.log s.dispatched now levels due is in
    (no_copy due.1.sysflag ((kept.each h.0 due.1 h.1).bits (right_of (is_half due.1) (is_delayed due.1) h.2)), tt)

-- ---- all events

-- the half's family is its origin's
pub commit_family : (s : State) (end : EndSaid) (half origin : Entry) → IsKept s.log → named_half s end ≡ Some half → verdict_origin s end ≡ Some origin → in_family origin.queue_offset half ≡ true
commit_family s end half origin kept named judged =
    let there = named_there s end half named in
    own_family s.log.records half origin there.2 ((kept.each there.0 half there.1).text there.2)
    (found (is_by_its_group end half) (sym (ap (judged_origin s.log.records end) named) ∙ judged))
  where
    found : (b : Bool) → (if b then origin_of s.log.records half else None) ≡ Some origin → origin_of s.log.records half ≡ Some origin
    found true is = is
    found false is = absurd (cc)

pub record Copies (s : State) (e : Events.Event) : Type 0 where
  pub half : Entry
  pub origin : Entry
  pub commit : IsCommitOf s e half origin
  pub drafts_are : drafts_of s e ≡ copy_draft s.setup.host half ∷ op_draft s.setup.host (moment s e) origin.queue_offset ∷ []

asks_copies : (s : State) (a : Events.Asked) → IsKept s.log → is_refused s (Events.Asks a) ≡ false → NoCopies (drafts_of s (Events.Asks a)) ⊎ Copies s (Events.Asks a)
unfolding drafts_of RequestCopies
asks_copies s a kept fine = elim (request_copies s (max a.now s.now) a.host a.request) [
  | inl none ↦ inl none
  | inr h ↦ inr (record {
    half = h.2.half;
    origin = h.2.origin;
    commit = record {
      asked = a;
      end = h.0;
      is = refl;
      request = h.1;
      verdict = h.2.verdict;
      named = h.2.named;
      judged = h.2.judged;
      family = commit_family s h.0 h.2.half h.2.origin kept h.2.named h.2.judged;
      was_open = h.2.was_open;
      fine = fine;
    };
    drafts_are = h.2.drafts_are;
  })
]

pub event_copies : (s : State) (e : Events.Event) → IsKept s.log → is_refused s e ≡ false → NoCopies (drafts_of s e) ⊎ Copies s e
unfolding drafts_of
event_copies s (Events.Asks a) kept fine = asks_copies s a kept fine
event_copies s (Events.Deliver now) kept fine = inl (deliver_copies s (max now s.now) (due_delayed s.log s.dispatched (max now s.now)) kept refl)
event_copies s (Events.Check now) kept fine = inl (check_copies s (max now s.now) (due_origin s (max now s.now)) kept refl)
event_copies s Events.Take kept fine = inl tt
event_copies s (Events.Flushed n) kept fine = inl tt
event_copies s (Events.FlushFailed n) kept fine = inl tt
event_copies s (Events.Look n t) kept fine = inl tt
event_copies s (Events.Dispatch n) kept fine = inl tt
event_copies s (Events.Leave n) kept fine = inl tt
event_copies s (Events.Trim base) kept fine = inl tt
