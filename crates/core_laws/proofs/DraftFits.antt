-- What the broker appends fits its log.
use Rattle.std.proofs.Common.{◌≡◌, ◌≢◌, refl, ap, sym, ◌∙◌, subst, arith, ℕ, ◌-◌, ◌<◌, ◌^◌, List, [], slice_get, Bool, true, false, Option, Some, None, if◌then◌else◌}
use Rattle.std.specs.Prelude.{ℤ, pos, negsuc, min, nat_lt, bit_and, codes, ◌||◌, ◌==◌, unwrap_or}
use Rattle.std.specs.Str.{bytes_eq}
use Rattle.std.proofs.lemmas.Bool.{and_from, eq-eqb}
use Rattle.std.proofs.lemmas.Option.{same_Some}
use Rattle.std.proofs.Math.Nat.{min-le_right}
use Rattle.mq_bytes.specs.Decimal.{digits_of, decimal_value}
use Rattle.record_codec.specs.Entry.{Entry}
use Rattle.record_codec.specs.Props.{value_of, with_prop, without, has_name}
use Rattle.record_codec.specs.LaxProps.{read_props}
use Rattle.record_codec.specs.declared.draft.Draft.{Draft}
use Rattle.record_codec.proofs.LastLemmas.{value_of-put, value_of-other, value_of-dropped, value_of-kept}
use Rattle.log_model.specs.Admissible.{half_topic, level_topic, op_topic, discard_topic, is_system_topic}
use Rattle.log_model.specs.Kinds.{is_half, is_delayed, is_text}
use Rattle.log_model.specs.Drafts.{text_in, plain_flag, copy_draft, op_draft, renewal_draft, renewed_props, discard_draft, delivery_draft}
use Rattle.log_model.specs.Numbered.{Log, with_appended, place_end, queue_max}
use Rattle.request_fields.specs.Requests.{SendSaid}
use Rattle.broker_model.specs.Sends.{send_draft, half_draft, delayed_or_plain, plain_draft, kept_props, with_real, with_group, is_half_send, level_of, level_text, level_named, flag_of, queue_named}
use Rattle.core_laws.specs.Kept.{IsKept, IsNumberText}
use Rattle.core_laws.specs.KeptDrafts.{IsFitDraft}
use Rattle.core_laws.proofs.Bases.{count_queue, queue_before}
use Rattle.core_laws.proofs.Kept.{ends_behind}
use Rattle.core_laws.proofs.Texts.{same_text, text_equal, plain_bits, number_once}

-- texts that are told apart differ
pub differ : (a b : List ℕ) → bytes_eq a b ≡ false → a ≢ b
differ a b apart is = let same = text_equal a b is in absurd (let e : true ≡ false = sym same ∙ apart in cc)

-- ---- topics

-- a topic of clients is none of the four others
pub record IsApart (topic : List ℕ) : Type 0 where
  pub level : bytes_eq topic level_topic ≡ false
  pub half : bytes_eq topic half_topic ≡ false
  pub op : bytes_eq topic op_topic ≡ false
  pub discard : bytes_eq topic discard_topic ≡ false

four : (a b c d : Bool) → (a || b || c || d) ≡ false → (a ≡ false) × (b ≡ false) × (c ≡ false) × (d ≡ false)
four true b c d fails = absurd (cc)
four false true c d fails = absurd (cc)
four false false true d fails = absurd (cc)
four false false false true fails = absurd (cc)
four false false false false fails = (fails, fails, fails, fails)

pub topic_apart : (topic : List ℕ) → is_system_topic topic ≡ false → IsApart topic
topic_apart topic plain =
    let h = four (bytes_eq topic level_topic) (bytes_eq topic half_topic) (bytes_eq topic op_topic) (bytes_eq topic discard_topic) plain in
    record { level = h.0; half = h.1; op = h.2; discard = h.3 }

never : {A : Type 0} (b : Bool) → b ≡ false → b ≡ true → A
never b fails holds = let e : false ≡ true = sym fails ∙ holds in absurd (cc)

neither : {A : Type 0} (a b : Bool) → a ≡ false → b ≡ false → (a || b) ≡ true → A
neither true b first second is = absurd (cc)
neither false b first second is = never b second is

-- a flag without transaction bits is no copy's
no_copy : (flag : ℕ) → bit_and flag 12 ≡ 0 → (bit_and flag 12 == 8) ≡ false
no_copy flag bits = ap (λ (n : ℕ). n == 8) bits

-- a message in a topic of clients, that is no copy
plain_fits : (log : Log) (d : Draft) → is_system_topic d.topic ≡ false → bit_and d.sysflag 12 ≡ 0 → IsFitDraft log d
plain_fits log d plain bits =
    let apart = topic_apart d.topic plain in
    record {
      prepared = neither _ _ (no_copy d.sysflag bits) apart.discard;
      bits = neither _ _ apart.half apart.level;
      real = neither _ _ apart.half apart.level;
      text = never _ apart.half;
      queue = never _ apart.half;
      names = never _ apart.half;
      level = never _ apart.level;
      op = never _ apart.op;
      undelivered = neither _ _ apart.half apart.level;
    }

-- ---- what is made of a record of the log

inside : (log : Log) (k : ℕ) (r : Entry) → IsKept log → slice_get log.records k ≡ Some r → r.offset < place_end log
inside log k r kept at = omega (arith, ends_behind log k r kept at)

-- one of two facts
left_of : (a b : Bool) → a ≡ true → (a || b) ≡ true
left_of true b is = refl
left_of false b is = absurd (cc)

right_of : (a b : Bool) → b ≡ true → (a || b) ≡ true
right_of true b is = refl
right_of false b is = is

pub copy_fits : (log : Log) (host : List ℕ) (half : Entry) (k : ℕ) → IsKept log → slice_get log.records k ≡ Some half → is_half half ≡ true
    → IsFitDraft log (copy_draft host half)
copy_fits log host half k kept at is =
    let apart = topic_apart (text_in (codes "REAL_TOPIC") half.props) ((kept.each k half at).real (left_of (is_half half) (is_delayed half) is)) in
    record {
      prepared = λ any. inside log k half kept at;
      bits = neither _ _ apart.half apart.level;
      real = neither _ _ apart.half apart.level;
      text = never _ apart.half;
      queue = never _ apart.half;
      names = never _ apart.half;
      level = never _ apart.level;
      op = never _ apart.op;
      undelivered = neither _ _ apart.half apart.level;
    }

-- an origin of the log may be named by its queue offset
pub record CanBeNamed (log : Log) (origin : ℕ) : Type 0 where
  pub small : origin < 2 ^ 64
  pub low : origin < queue_max log half_topic 0

pub half_named : (log : Log) (k : ℕ) (half : Entry) → IsKept log → slice_get log.records k ≡ Some half → is_half half ≡ true → CanBeNamed log half.queue_offset
half_named log k half kept at is =
    let behind = kept.halves k half at is in
    record {
      small = (kept.each k half at).low is;
      low = omega (
        arith,
        behind.queue_offset,
        queue_before k log.records half half_topic 0 at (and_from (is_half half) (half.queue == 0) is (eq-eqb half.queue 0 behind.queue)),
      );
    }

-- in a longer log too
pub named_on : (log : Log) (new : List Entry) (origin : ℕ) → CanBeNamed log origin → CanBeNamed (with_appended log new) origin
named_on log new origin can = record { small = can.small; low = omega (arith, can.low, count_queue log.records new half_topic 0) }

pub op_fits : (log : Log) (host : List ℕ) (now origin : ℕ) → CanBeNamed log origin → IsFitDraft log (op_draft host now origin)
op_fits log host now origin can = record {
  prepared = neither _ _ refl refl;
  bits = neither _ _ refl refl;
  real = neither _ _ refl refl;
  text = never _ refl;
  queue = never _ refl;
  names = never _ refl;
  level = never _ refl;
  op = λ is h low named. subst (λ (n : ℕ). n < queue_max log half_topic 0)
      (number_once origin h can.small low (same_text (digits_of origin) (digits_of h) named)) can.low;
  undelivered = neither _ _ refl refl;
}

pub discard_fits : (log : Log) (host : List ℕ) (half : Entry) (k : ℕ) → IsKept log → slice_get log.records k ≡ Some half → IsFitDraft log (discard_draft host half)
discard_fits log host half k kept at = record {
  prepared = λ any. inside log k half kept at;
  bits = neither _ _ refl refl;
  real = neither _ _ refl refl;
  text = never _ refl;
  queue = never _ refl;
  names = never _ refl;
  level = never _ refl;
  op = never _ refl;
  undelivered = neither _ _ refl refl;
}

pub delivery_fits : (log : Log) (host : List ℕ) (level number : ℕ) (item : Entry) (k : ℕ) → IsKept log → slice_get log.records k ≡ Some item → is_delayed item ≡ true
    → IsFitDraft log (delivery_draft host level number item)
delivery_fits log host level number item k kept at is =
    let waits = right_of (is_half item) (is_delayed item) is in
    plain_fits log (delivery_draft host level number item) ((kept.each k item at).real waits) ((kept.each k item at).bits waits)

-- a half message is in no other topic
pub half_apart : (topic other : List ℕ) → topic ≡ half_topic → bytes_eq half_topic other ≡ false → bytes_eq topic other ≡ false
half_apart topic other is not = ap (λ (t : List ℕ). bytes_eq t other) is ∙ not

pub renewed_unmarked : (n : ℕ) (origin : Entry) → value_of (codes "DELAY_FROM") origin.props ≡ None → value_of (codes "DELAY_FROM") (renewed_props n origin) ≡ None
renewed_unmarked n origin none =
    value_of-other (codes "DELAY_FROM") (codes "TRANSACTION_CHECK_TIMES") (digits_of n) (with_prop (codes "TRAN_PREPARED_QUEUE_OFFSET") (digits_of origin.queue_offset) origin.props) (differ _ _ refl)
    ∙ (value_of-other (codes "DELAY_FROM") (codes "TRAN_PREPARED_QUEUE_OFFSET") (digits_of origin.queue_offset) origin.props (differ _ _ refl) ∙ none)

pub renewal_fits : (log : Log) (host : List ℕ) (n : ℕ) (origin : Entry) (k : ℕ) → IsKept log → slice_get log.records k ≡ Some origin → is_half origin ≡ true
    → IsFitDraft log (renewal_draft host n origin)
renewal_fits log host n origin k kept at is =
    let waits = left_of (is_half origin) (is_delayed origin) is in
    let before = kept.each k origin at in
    let real : value_of (codes "REAL_TOPIC") (renewed_props n origin) ≡ value_of (codes "REAL_TOPIC") origin.props =
    value_of-other (codes "REAL_TOPIC") (codes "TRANSACTION_CHECK_TIMES") (digits_of n) (with_prop (codes "TRAN_PREPARED_QUEUE_OFFSET") (digits_of origin.queue_offset) origin.props) (differ _ _ refl)
    ∙ value_of-other (codes "REAL_TOPIC") (codes "TRAN_PREPARED_QUEUE_OFFSET") (digits_of origin.queue_offset) origin.props (differ _ _ refl) in
    let text : value_of (codes "TRAN_PREPARED_QUEUE_OFFSET") (renewed_props n origin) ≡ Some (digits_of origin.queue_offset) =
    value_of-other (codes "TRAN_PREPARED_QUEUE_OFFSET") (codes "TRANSACTION_CHECK_TIMES") (digits_of n) (with_prop (codes "TRAN_PREPARED_QUEUE_OFFSET") (digits_of origin.queue_offset) origin.props) (differ _ _ refl)
    ∙ value_of-put (codes "TRAN_PREPARED_QUEUE_OFFSET") (digits_of origin.queue_offset) origin.props in
    record {
      prepared = neither _ _ (no_copy origin.sysflag (before.bits waits)) (half_apart origin.topic discard_topic (same_text origin.topic half_topic is) refl);
      bits = λ any. before.bits waits;
      real = λ any. ap (λ (o : Option (List ℕ)). is_system_topic (unwrap_or o [])) real ∙ before.real waits;
      text = λ any. subst IsNumberText (sym text) (origin.queue_offset, before.low is, refl);
      undelivered = λ any. renewed_unmarked n origin (before.undelivered waits);
      level = never _ (half_apart origin.topic level_topic (same_text origin.topic half_topic is) refl);
      op = never _ (half_apart origin.topic op_topic (same_text origin.topic half_topic is) refl);
      queue = λ any. (kept.halves k origin at is).queue;
      names = λ any h low named.
          let same = same_text (digits_of origin.queue_offset) (digits_of h) (subst (λ (o : Option (List ℕ)). is_text (digits_of h) o ≡ true) text named) in
          let one : origin.queue_offset ≡ h = number_once origin.queue_offset h (before.low is) low same in
          let half = kept.halves k origin at is in
          omega (
            arith,
            one,
            half.queue_offset,
            queue_before k log.records origin half_topic 0 at (and_from (is_half origin) (origin.queue == 0) is (eq-eqb origin.queue 0 half.queue)),
          );
    }

-- ---- sends

-- the names that a send can't set
kept_without : (text : List ℕ) → value_of (codes "TRAN_PREPARED_QUEUE_OFFSET") (kept_props text) ≡ None
kept_without text =
    value_of-kept (codes "TRAN_PREPARED_QUEUE_OFFSET") (codes "SEAL") (without (codes "REAL_TOPIC") (without (codes "REAL_QID") (without (codes "DELAY_FROM") (without (codes "TRAN_PREPARED_QUEUE_OFFSET") (without (codes "TRANSACTION_CHECK_TIMES") (read_props text)))))) (differ _ _ refl)
    ∙ (value_of-kept (codes "TRAN_PREPARED_QUEUE_OFFSET") (codes "REAL_TOPIC") (without (codes "REAL_QID") (without (codes "DELAY_FROM") (without (codes "TRAN_PREPARED_QUEUE_OFFSET") (without (codes "TRANSACTION_CHECK_TIMES") (read_props text))))) (differ _ _ refl)
    ∙ (value_of-kept (codes "TRAN_PREPARED_QUEUE_OFFSET") (codes "REAL_QID") (without (codes "DELAY_FROM") (without (codes "TRAN_PREPARED_QUEUE_OFFSET") (without (codes "TRANSACTION_CHECK_TIMES") (read_props text)))) (differ _ _ refl)
    ∙ (value_of-kept (codes "TRAN_PREPARED_QUEUE_OFFSET") (codes "DELAY_FROM") (without (codes "TRAN_PREPARED_QUEUE_OFFSET") (without (codes "TRANSACTION_CHECK_TIMES") (read_props text))) (differ _ _ refl)
    ∙ value_of-dropped (codes "TRAN_PREPARED_QUEUE_OFFSET") (without (codes "TRANSACTION_CHECK_TIMES") (read_props text)))))

group_other : (other group : List ℕ) (props : List (List ℕ × List ℕ)) → other ≢ codes "PGROUP" → value_of other (with_group group props) ≡ value_of other props
group_other other group props differs =
    elim (has_name (codes "PGROUP") props) as (λ b. value_of other (if b then props else with_prop (codes "PGROUP") group props) ≡ value_of other props) [
      | true ↦ refl
      | false ↦ value_of-other other (codes "PGROUP") group props differs
    ]

real_topic : (topic : List ℕ) (queue : ℕ) (props : List (List ℕ × List ℕ)) → value_of (codes "REAL_TOPIC") (with_real topic queue props) ≡ Some topic
real_topic topic queue props = value_of-other (codes "REAL_TOPIC") (codes "REAL_QID") (digits_of queue) (with_prop (codes "REAL_TOPIC") topic props) (differ _ _ refl)
    ∙ value_of-put (codes "REAL_TOPIC") topic props

pub half_text : (group topic : List ℕ) (queue : ℕ) (text : List ℕ)
    → value_of (codes "TRAN_PREPARED_QUEUE_OFFSET") (with_group group (with_real topic queue (without (codes "DELAY") (kept_props text)))) ≡ None
half_text group topic queue text =
    group_other (codes "TRAN_PREPARED_QUEUE_OFFSET") group (with_real topic queue (without (codes "DELAY") (kept_props text))) (differ _ _ refl)
    ∙ (value_of-other (codes "TRAN_PREPARED_QUEUE_OFFSET") (codes "REAL_QID") (digits_of queue) (with_prop (codes "REAL_TOPIC") topic (without (codes "DELAY") (kept_props text))) (differ _ _ refl)
    ∙ (value_of-other (codes "TRAN_PREPARED_QUEUE_OFFSET") (codes "REAL_TOPIC") topic (without (codes "DELAY") (kept_props text)) (differ _ _ refl)
    ∙ (value_of-kept (codes "TRAN_PREPARED_QUEUE_OFFSET") (codes "DELAY") (kept_props text) (differ _ _ refl) ∙ kept_without text)))

-- ---- no delivery

sent_unmarked : (text : List ℕ) → value_of (codes "DELAY_FROM") (kept_props text) ≡ None
sent_unmarked text =
    value_of-kept (codes "DELAY_FROM") (codes "SEAL") (without (codes "REAL_TOPIC") (without (codes "REAL_QID") (without (codes "DELAY_FROM") (without (codes "TRAN_PREPARED_QUEUE_OFFSET") (without (codes "TRANSACTION_CHECK_TIMES") (read_props text)))))) (differ _ _ refl)
    ∙ (value_of-kept (codes "DELAY_FROM") (codes "REAL_TOPIC") (without (codes "REAL_QID") (without (codes "DELAY_FROM") (without (codes "TRAN_PREPARED_QUEUE_OFFSET") (without (codes "TRANSACTION_CHECK_TIMES") (read_props text))))) (differ _ _ refl)
    ∙ (value_of-kept (codes "DELAY_FROM") (codes "REAL_QID") (without (codes "DELAY_FROM") (without (codes "TRAN_PREPARED_QUEUE_OFFSET") (without (codes "TRANSACTION_CHECK_TIMES") (read_props text)))) (differ _ _ refl)
    ∙ value_of-dropped (codes "DELAY_FROM") (without (codes "TRAN_PREPARED_QUEUE_OFFSET") (without (codes "TRANSACTION_CHECK_TIMES") (read_props text)))))

real_unmarked : (topic : List ℕ) (queue : ℕ) (props : List (List ℕ × List ℕ)) → value_of (codes "DELAY_FROM") props ≡ None → value_of (codes "DELAY_FROM") (with_real topic queue props) ≡ None
real_unmarked topic queue props none = value_of-other (codes "DELAY_FROM") (codes "REAL_QID") (digits_of queue) (with_prop (codes "REAL_TOPIC") topic props) (differ _ _ refl)
    ∙ (value_of-other (codes "DELAY_FROM") (codes "REAL_TOPIC") topic props (differ _ _ refl) ∙ none)

half_unmarked : (send : SendSaid) → value_of (codes "DELAY_FROM") (with_group send.group (with_real send.topic (queue_named send.queue) (without (codes "DELAY") (kept_props send.props)))) ≡ None
half_unmarked send =
    group_other (codes "DELAY_FROM") send.group (with_real send.topic (queue_named send.queue) (without (codes "DELAY") (kept_props send.props))) (differ _ _ refl)
    ∙ real_unmarked send.topic (queue_named send.queue) (without (codes "DELAY") (kept_props send.props))
    (value_of-kept (codes "DELAY_FROM") (codes "DELAY") (kept_props send.props) (differ _ _ refl) ∙ sent_unmarked send.props)

-- no send is one
pub send_unmarked : (host born : List ℕ) (send : SendSaid) → value_of (codes "DELAY_FROM") (send_draft host born send).props ≡ None
send_unmarked host born send =
    elim (is_half_send send) as (λ b. value_of (codes "DELAY_FROM") (if b then half_draft send.group (plain_draft host born send) else delayed_or_plain (level_of send) (plain_draft host born send)).props ≡ None) [
      | true ↦ half_unmarked send
      | false ↦ elim (level_of send) as (λ level. value_of (codes "DELAY_FROM") (delayed_or_plain level (plain_draft host born send)).props ≡ None) [
        | None ↦ sent_unmarked send.props
        | Some level ↦ real_unmarked send.topic (queue_named send.queue) (kept_props send.props) (sent_unmarked send.props)
      ]
    ]

-- a level is at most 18
level_low : (o : Option ℤ) (level : ℕ) → level_named o ≡ Some level → level - 1 < 18
level_low None level is = absurd (cc)
level_low (Some (negsuc n)) level is = absurd (cc)
level_low (Some (pos n)) level is = (elim (nat_lt 0 n) as (λ b. (if b then Some (min n 18) else None) ≡ Some level → level - 1 < 18) [
  | true ↦ λ e. omega (arith, min-le_right n 18, same_Some (min n 18) level e)
  | false ↦ λ e. absurd (cc)
]) is

text_low : (o : Option (List ℕ)) (level : ℕ) → level_text o ≡ Some level → level - 1 < 18
text_low None level is = absurd (cc)
text_low (Some text) level is = level_low (decimal_value text) level is

pub send_fits : (log : Log) (host born : List ℕ) (send : SendSaid) → is_system_topic send.topic ≡ false → IsFitDraft log (send_draft host born send)
send_fits log host born send plain =
    elim (is_half_send send) as (λ b. IsFitDraft log (if b then half_draft send.group (plain_draft host born send) else delayed_or_plain (level_of send) (plain_draft host born send))) [
      | true ↦ record {
        prepared = neither _ _ (no_copy (plain_flag (flag_of send)) bits) refl;
        bits = λ any. bits;
        real = λ any. ap (λ (o : Option (List ℕ)). is_system_topic (unwrap_or o []))
            (group_other (codes "REAL_TOPIC") send.group (with_real send.topic (queue_named send.queue) (without (codes "DELAY") (kept_props send.props))) (differ _ _ refl) ∙ real_topic send.topic (queue_named send.queue) (without (codes "DELAY") (kept_props send.props))) ∙ plain;
        text = λ any. subst IsNumberText (sym (half_text send.group send.topic (queue_named send.queue) send.props)) tt;
        undelivered = λ any. half_unmarked send;
        level = never _ refl;
        op = never _ refl;
        queue = λ any. refl;
        names = λ any h low named. absurd (let no = subst (λ (o : Option (List ℕ)). is_text (digits_of h) o ≡ true)
            (half_text send.group send.topic (queue_named send.queue) send.props) named in cc);
      }
      | false ↦ (elim (level_of send) as (λ level. level_of send ≡ level → IsFitDraft log (delayed_or_plain level (plain_draft host born send))) [
        | None ↦ λ e. plain_fits log (plain_draft host born send) plain bits
        | Some level ↦ λ e. record {
          prepared = neither _ _ (no_copy (plain_flag (flag_of send)) bits) refl;
          bits = λ any. bits;
          real = λ any. ap (λ (o : Option (List ℕ)). is_system_topic (unwrap_or o [])) (real_topic send.topic (queue_named send.queue) (kept_props send.props)) ∙ plain;
          text = never _ refl;
          queue = never _ refl;
          names = never _ refl;
          level = λ any. text_low (value_of (codes "DELAY") (read_props send.props)) level e;
          op = never _ refl;
          undelivered = λ any. real_unmarked send.topic (queue_named send.queue) (kept_props send.props) (sent_unmarked send.props);
        }
      ]) refl
    ]
  where
    bits : bit_and (plain_flag (flag_of send)) 12 ≡ 0
    bits = plain_bits (flag_of send)
