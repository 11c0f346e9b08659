-- Behind an accepted Commit its origin is committed, with the copy that the Commit made or found.
use Rattle.std.proofs.Common.{◌≡◌, inl, inr, refl, ap, sym, ◌∙◌, subst, arith, ℕ, ◌+◌, ◌<◌, ◌≤◌, ◌^◌, List, ◌++◌, take, length, slice_get, Bool, true, false, Option, Some, None, if◌then◌else◌}
use Rattle.std.specs.Prelude.{◌&&◌, ◌||◌, ◌==◌, not, is_none}
use Rattle.std.specs.List.{list_any}
use Rattle.std.specs.Str.Parse.{digits_value}
use Rattle.std.proofs.lemmas.Bool.{cases_Bool, cases_lt, cases_order, and_parts, and_from, or_cases, eqb-true, eq-eqb}
use Rattle.std.proofs.lemmas.Option.{same_Some}
use Rattle.record_codec.specs.Entry.{Entry}
use Rattle.log_model.specs.Admissible.{half_topic}
use Rattle.log_model.specs.Kinds.{is_half, is_copy, is_discard, origin_text}
use Rattle.log_model.specs.Numbered.{Log, with_appended}
use Rattle.log_model.specs.Queues.{queue_of}
use Rattle.log_model.specs.Transactions.{Open, Committed, RolledBack, Discarded, transaction_state, is_origin, is_renewal, is_of_family, copies_it, discards_it, names_it, settles, is_settled, named_origin, origin_of}
use Rattle.request_fields.specs.Requests.{EndSaid}
use Rattle.broker_model.specs.State.{State}
use Rattle.broker_model.specs.Events
use Rattle.broker_model.specs.Refusals.{named_half, verdict_origin, judged_origin, is_by_its_group}
use Rattle.broker_model.specs.Step.{Step}
use Rattle.broker_model.specs.Appended.{made_by, drafts_of, is_refused, moment}
use Rattle.broker_model.specs.Acknowledged.{StandsAt, is_verdict_on}
use Rattle.core_laws.specs.Kept.{IsKept}
use Rattle.core_laws.specs.Halves.{in_family, IsCopyAt}
use Rattle.core_laws.proofs.Lists.{get_left, take_get, take_take_less}
use Rattle.core_laws.proofs.Bases.{longer_queue, queue_before}
use Rattle.core_laws.proofs.Counts.{any_none}
use Rattle.core_laws.proofs.Families.{places_rise, family_found, open_unsettled}
use Rattle.core_laws.proofs.Texts.{found_at}
use Rattle.core_laws.proofs.KeptSteps.{named_there}
use Rattle.core_laws.proofs.KeptRuns.{made_kept}
use Rattle.core_laws.proofs.Verdicts.{IsVerdict, commit_of}
use Rattle.core_laws.proofs.CommitAnswers.{verdict_log}
use Rattle.core_laws.proofs.Discards.{asks_discards, none_discarded}
use Rattle.core_laws.proofs.Committed.{IsCommittedAt, NoneGivesUp, more_none}

-- ---- the origin

-- the origin of a half message is one of the log
origin_case : (log : List Entry) (text : Option (List ℕ)) (r origin : Entry) (k : ℕ) → slice_get log k ≡ Some r → is_half r ≡ true → origin_text r ≡ text
    → named_origin log text r ≡ Some origin → (i : ℕ) × (slice_get log i ≡ Some origin) × (is_origin origin.queue_offset origin ≡ true)
origin_case log None r origin k at half is found = (
  k,
  at ∙ found,
  subst (λ (x : Entry). is_origin x.queue_offset x ≡ true) (same_Some r origin found)
      (and_from (is_half r && is_none (origin_text r)) (r.queue_offset == r.queue_offset)
      (and_from (is_half r) (is_none (origin_text r)) half (ap (λ (o : Option (List ℕ)). is_none o) is)) (eq-eqb r.queue_offset r.queue_offset refl)),
)
origin_case log (Some text) r origin k at half is found =
    let there = found_at (is_origin (digits_value 10 text)) log origin found in
    let parts = and_parts (is_half origin && is_none (origin_text origin)) (origin.queue_offset == digits_value 10 text) there.2 in
    (there.0, there.1, and_from (is_half origin && is_none (origin_text origin)) (origin.queue_offset == origin.queue_offset) parts.0 (eq-eqb origin.queue_offset origin.queue_offset refl))

-- the origin that a verdict judges stands in the log
pub judged_stands : (s : State) (end : EndSaid) (half origin : Entry) → named_half s end ≡ Some half → verdict_origin s end ≡ Some origin
    → (i : ℕ) × (slice_get s.log.records i ≡ Some origin) × (is_origin origin.queue_offset origin ≡ true)
judged_stands s end half origin named judged =
    let there = named_there s end half named in
    origin_case s.log.records (origin_text half) half origin there.0 there.1 there.2 refl
    (found (is_by_its_group end half) (sym (ap (judged_origin s.log.records end) named) ∙ judged))
  where
    found : (b : Bool) → (if b then origin_of s.log.records half else None) ≡ Some origin → origin_of s.log.records half ≡ Some origin
    found true is = is
    found false is = absurd (cc)

-- it is the first of its family
origin_first : (log : Log) (h k q : ℕ) (o y : Entry) → h < 2 ^ 64 → IsKept log → slice_get log.records k ≡ Some o → is_origin h o ≡ true
    → slice_get log.records q ≡ Some y → in_family h y ≡ true → k ≤ q
origin_first log h k q o y low kept o_at o_is y_at family = elim (cases_lt q k) [
  | inl later ↦ absurd (wrong later)
  | inr before ↦ before
]
  where
    parts : ((is_half o && is_none (origin_text o)) ≡ true) × ((o.queue_offset == h) ≡ true)
    parts = and_parts (is_half o && is_none (origin_text o)) (o.queue_offset == h) o_is

    wrong : q < k → ⊥
    wrong later =
        let of : o.queue_offset ≡ h = eqb-true o.queue_offset h parts.1 in
        let counts = (kept.halves k o o_at (and_parts (is_half o) (is_none (origin_text o)) parts.0).0).queue_offset in
        elim (or_cases (is_origin h y) (is_renewal h y) family) [
          | inl origin ↦
              let y_parts = and_parts (is_half y && is_none (origin_text y)) (y.queue_offset == h) origin in
              let y_half = (and_parts (is_half y) (is_none (origin_text y)) y_parts.0).0 in
              let half = kept.halves q y y_at y_half in
              omega (
                arith,
                of,
                counts,
                half.queue_offset,
                eqb-true y.queue_offset h y_parts.1,
                queue_before q (take k log.records) y half_topic 0 (take_get k q log.records y later y_at)
                    (and_from (is_half y) (y.queue == 0) y_half (eq-eqb y.queue 0 half.queue)),
                ap (λ (l : List Entry). length (queue_of l half_topic 0)) (take_take_less q k log.records (omega (arith, later))),
              )
          | inr renewal ↦
              let half = kept.halves q y y_at (and_parts (is_half y) _ renewal).0 in
              omega (arith, of, counts, half.names h low renewal, longer_queue q k log.records half_topic 0 (omega (arith, later)))
        ]

-- a record at the place that another names stands before it
earlier_place : (log : Log) (k j : ℕ) (x y : Entry) → IsKept log → slice_get log.records k ≡ Some x → slice_get log.records j ≡ Some y → y.offset ≡ x.prepared
    → x.prepared < x.offset → j < k
earlier_place log k j x y kept at y_at same low = elim (cases_order j k) [
  | inl one ↦ absurd (let is : x ≡ y = same_Some x y (sym at ∙ (ap (λ (n : ℕ). slice_get log.records n) (sym one) ∙ y_at)) in
      omega (arith, low, same, ap (λ (z : Entry). z.offset) is))
  | inr apart ↦ elim apart [
    | inl less ↦ less
    | inr more ↦ absurd (omega (arith, places_rise log k j x y kept at y_at more, low, same))
  ]
]

-- ---- what is given up

given_settles : (log : List Entry) (h : ℕ) (r : Entry) → discards_it log h r ≡ true → settles log h r ≡ true
given_settles log h r is = last (names_it h r) (copies_it log h r) (discards_it log h r) is
  where
    last : (a b c : Bool) → c ≡ true → (a || b || c) ≡ true
    last true b c e = refl
    last false true c e = refl
    last false false c e = e

pub open_none : (log : List Entry) (h : ℕ) → transaction_state log h ≡ Open → NoneGivesUp log h
open_none log h is = λ k x at. elim (cases_Bool (discards_it log h x)) [
  | inl given ↦ absurd (let settled = any_none (settles log h) log (open_unsettled log h is) k x at in let e : true ≡ false = sym (given_settles log h x given) ∙ settled in cc)
  | inr not ↦ not
]

committed_none : (log : List Entry) (h : ℕ) → transaction_state log h ≡ Committed → NoneGivesUp log h
committed_none log h is = any_none (discards_it log h) log (none (is_settled log h) (list_any (discards_it log h) log) (list_any (copies_it log h) log) is)
  where
    none : (a b c : Bool) → (if not a then Open else (if b then Discarded else (if c then Committed else RolledBack))) ≡ Committed → b ≡ false
    none true true c e = absurd (cc)
    none true false c e = refl
    none false b c e = absurd (cc)

left_of : (a b : Bool) → a ≡ true → (a || b) ≡ true
left_of true b is = refl
left_of false b is = absurd (cc)

-- no request gives up what none gave up before
pub asks_none : (s : State) (a : Events.Asked) (h : ℕ) → 0 < s.setup.segment → IsKept s.log → is_refused s (Events.Asks a) ≡ false → NoneGivesUp s.log.records h
    → NoneGivesUp (s.log.records ++ made_by s (Events.Asks a)) h
asks_none s a h some kept fine none =
    more_none s.log (made_by s (Events.Asks a)) h (made_kept s (Events.Asks a) some kept fine)
    (λ j k x y at gone y_at family same. (let not = none_discarded s.setup.segment (moment s (Events.Asks a)) s.log (drafts_of s (Events.Asks a)) j x (asks_discards s a kept fine) at in
    let e : true ≡ false = sym gone ∙ not in cc)) none

-- ---- a Commit

-- the origin stood before the Commit, and is committed behind it
pub record IsKeptCommit (s t : State) (h n : ℕ) : Type 0 where
  pub i : ℕ
  pub origin : Entry
  pub stands : StandsAt s i origin
  pub is_origin : is_origin h origin ≡ true
  pub low : h < 2 ^ 64
  pub committed : IsCommittedAt t.log h i n

pub commit_stays : (s t : State) (e : Events.Event) (answer : Events.Answer) (h n : ℕ) (copy : Entry) → 0 < s.setup.segment → IsKept s.log
    → is_verdict_on s h 8 e ≡ true → Step s e (Some answer) t → IsCopyAt t h n copy → IsKeptCommit s t h n
commit_stays s t e answer h n copy some kept is step copied =
    let v = commit_of s e h is in
    behind v (subst (λ (x : Events.Event). Step s x (Some answer) t) v.is step) (subst (λ (x : Events.Event). is_refused s x ≡ false) v.is v.fine)
  where
    none_before : (v : IsVerdict s e h 8 Committed) → NoneGivesUp s.log.records h
    none_before v = subst (NoneGivesUp s.log.records) v.of (elim v.state [
      | inl was_open ↦ open_none s.log.records v.origin.queue_offset was_open
      | inr done ↦ committed_none s.log.records v.origin.queue_offset done
    ])

    behind : (v : IsVerdict s e h 8 Committed) → Step s (Events.Asks v.asked) (Some answer) t → is_refused s (Events.Asks v.asked) ≡ false → IsKeptCommit s t h n
    behind v taken fine =
        let new : List Entry = made_by s (Events.Asks v.asked) in
        let log : t.log ≡ with_appended s.log new = verdict_log s t v.asked answer fine taken in
        let o = judged_stands s v.end v.half v.origin v.named v.judged in
        let is_it : is_origin h v.origin ≡ true = subst (λ (m : ℕ). is_origin m v.origin ≡ true) v.of o.2 in
        let half : is_half v.origin ≡ true = (and_parts (is_half v.origin) (is_none (origin_text v.origin))
        (and_parts (is_half v.origin && is_none (origin_text v.origin)) (v.origin.queue_offset == h) is_it).0).0 in
        let low : h < 2 ^ 64 = omega (arith, (kept.each o.0 v.origin o.1).low half, v.of) in
        let longer : IsKept (with_appended s.log new) = made_kept s (Events.Asks v.asked) some kept fine in
        let kept_now : IsKept t.log = subst IsKept (sym log) longer in
        let none = asks_none s v.asked h some kept fine (none_before v) in
        let parts = and_parts (is_copy copy) (is_of_family t.log.records h copy.prepared) copied.copies in
        let family = family_found t.log.records h copy.prepared parts.1 in
        let origin_at : slice_get t.log.records o.0 ≡ Some v.origin = subst (λ (l : Log). slice_get l.records o.0 ≡ Some v.origin) (sym log) (get_left s.log.records new o.0 v.origin o.1) in
        let first = origin_first t.log h o.0 family.0 v.origin family.1 low kept_now origin_at is_it family.2 family.3 in
        let named = (kept_now.each copied.stands.index copy copied.stands.stands).prepared (left_of (is_copy copy) (is_discard copy) parts.0) in
        let later = earlier_place t.log copied.stands.index family.0 copy family.1 kept_now copied.stands.stands family.2 family.4 named in
        record {
          i = s.log.base.records + o.0;
          origin = v.origin;
          stands = record { index = o.0; number = refl; stands = o.1 };
          is_origin = is_it;
          low = low;
          committed = record {
            origin = v.origin;
            origin_at = (o.0, ap (λ (l : Log). l.base.records + o.0) (sym log), origin_at);
            is_origin = is_it;
            q = t.log.base.records + family.0;
            half = family.1;
            half_at = (family.0, refl, family.2);
            family = family.3;
            copy = copy;
            copy_at = (copied.stands.index, copied.stands.number, copied.stands.stands);
            copied = parts.0;
            prepared = family.4;
            first = omega (arith, first, ap (λ (l : Log). l.base.records) log);
            follows = omega (arith, later, copied.stands.number);
            none = subst (λ (l : Log). NoneGivesUp l.records h) (sym log) none;
          };
        }
