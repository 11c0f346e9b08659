-- A lawful log is kept, so a run begins with a kept one.
use Rattle.std.proofs.Common.{◌≡◌, inl, inr, refl, ap, sym, ◌∙◌, subst, arith, ℕ, zero, suc, ◌+◌, ◌<◌, ◌≤◌, ◌^◌, if◌then◌else◌, List, [], ◌∷◌, ◌++◌, length, take, slice_get, Bool, true, false, Option, Some, None}
use Rattle.std.specs.Prelude.{codes, bit_and, ◌||◌, IsSome, IfSome, unwrap_or}
use Rattle.std.specs.Str.{bytes_eq, is_utf8}
use Rattle.std.specs.Str.Parse.{digits_value}
use Rattle.mq_bytes.specs.Decimal.{digits_of}
use Rattle.std.proofs.lemmas.Bool.{or_cases, and_parts, eqb-true}
use Rattle.std.proofs.lemmas.List.{take_all}
use Rattle.record_codec.specs.Entry.{Entry}
use Rattle.record_codec.specs.Layout.{size}
use Rattle.record_codec.specs.Props.{value_of}
use Rattle.log_model.specs.Admissible.{IsAdmissible, Waits, IsPlainTopic, is_system_topic, most_queues, half_topic, level_topic, op_topic, discard_topic, number_in, number_of, number_at}
use Rattle.log_model.specs.Bases.{Base, geometry}
use Rattle.log_model.specs.Kinds.{is_half, is_delayed, is_op, is_copy, is_discard, is_text, origin_text}
use Rattle.log_model.specs.Log.{IsGeometry, IsWellFormed, Follows, end_from, end_of}
use Rattle.log_model.specs.Numbered.{Log, IsLawful}
use Rattle.log_model.specs.Queues.{queue_of, queue_end}
use Rattle.log_model.proofs.FirstFits.{place_behind}
use Rattle.broker_model.specs.State.{State}
use Rattle.broker_model.specs.Run.{Boot, IsAmong, IsOpening}
use Rattle.core_laws.specs.Kept.{IsKept, IsKeptBoot, IsNumberText, IsHalfBehind, IsCountedBehind}
use Rattle.core_laws.proofs.Kept.{kept_one, ends_behind}
use Rattle.core_laws.proofs.KeptDrafts.{queue_low}
use Rattle.core_laws.proofs.Runs.{opening_sound}
use Rattle.core_laws.proofs.Texts.{number_text, number_is, number_value, same_text}

-- no record is a kept log
none_kept : (S : ℕ) (base : Base) → IsGeometry (geometry S base) → IsKept (record { base = base; records = [] })
none_kept S base site = record { each = λ i r at. absurd (cc); halves = λ i r at. absurd (cc); counts = λ i r at. absurd (cc); counted = counted }
  where
    low : (topic : List ℕ) (queue : ℕ) → base.queues topic queue + 0 ≤ base.place
    low topic queue = omega (arith, site.counted topic queue, site.some)

    counted : (k : ℕ) (topic : List ℕ) (queue : ℕ) → base.queues topic queue + length (queue_of (take {A = Entry} k []) topic queue) ≤ end_from base.place (take {A = Entry} k [])
    counted zero topic queue = low topic queue
    counted (suc k) topic queue = low topic queue

-- one record more
take_next : (k : ℕ) (xs : List Entry) (r : Entry) → slice_get xs k ≡ Some r → take (suc k) xs ≡ take k xs ++ r ∷ []
take_next k [] r got = absurd (cc)
take_next zero (x ∷ xs) r got = let same : x ≡ r = some_is x r got in ap (λ (y : Entry). y ∷ []) same
  where
    some_is : (a b : Entry) → Some a ≡ Some b → a ≡ b
    some_is a b e = cc
take_next (suc k) (x ∷ xs) r got = ap (λ (l : List Entry). x ∷ l) (take_next k xs r got)

there_is : (k : ℕ) (xs : List Entry) → k < length xs → (r : Entry) × (slice_get xs k ≡ Some r)
there_is k [] low = absurd (omega (arith, low))
there_is zero (x ∷ xs) low = (x, refl)
there_is (suc k) (x ∷ xs) low = there_is k xs (omega (arith, low))

-- ---- one admissible record

plain_real : (o : Option (List ℕ)) → IsSome o × IfSome o IsPlainTopic → is_system_topic (unwrap_or o []) ≡ false
plain_real None has = absurd (let h = has.0 in cc)
plain_real (Some topic) has = has.1.1

half_or_delayed : (S : ℕ) (r : Entry) → IsAdmissible S r → (is_half r || is_delayed r) ≡ true → Waits r
half_or_delayed S r may is = elim (or_cases (is_half r) (is_delayed r) is) [
  | inl half ↦ (may.half half).waits
  | inr delayed ↦ (may.level delayed).waits
]

copy_or_discard : (S : ℕ) (r : Entry) → IsAdmissible S r → (is_copy r || is_discard r) ≡ true → r.prepared < r.offset
copy_or_discard S r may is = elim (or_cases (is_copy r) (is_discard r) is) [
  | inl copy ↦ may.copy (eqb-true (bit_and r.sysflag 12) 8 copy)
  | inr discard ↦ may.discard discard
]

renewal_text : (o : Option (List ℕ)) → IfSome o (λ text. IsSome (number_in text)) → IsNumberText o
renewal_text None has = tt
renewal_text (Some text) has = number_text text has

-- a message that waits is in a topic of the broker
system_topic : (r : Entry) → (is_half r || is_delayed r) ≡ true → is_system_topic r.topic ≡ true
system_topic r is = either (is_half r) (is_delayed r) (bytes_eq r.topic op_topic) (bytes_eq r.topic discard_topic) is
  where
    either : (half level op discard : Bool) → (half || level) ≡ true → (level || half || op || discard) ≡ true
    either half true op discard e = refl
    either true false op discard e = refl
    either false false op discard e = absurd (cc)

-- the number that a renewal names is the one of its text
named_text : (o : Option (List ℕ)) (halves h : ℕ) → h < 2 ^ 64 → IfSome o (λ text. IsSome (number_in text)) → IfSome (number_at o) (λ n. n < halves)
    → is_text (digits_of h) o ≡ true → h < halves
named_text None halves h low has below is = absurd (cc)
named_text (Some text) halves h low has below is =
    let value : digits_value 10 text ≡ h = ap (digits_value 10) (same_text text (digits_of h) is) ∙ number_value h low in
    subst (λ (n : ℕ). n < halves) value (subst (λ (o : Option ℕ). IfSome o (λ n. n < halves)) (number_is text has) below)

half_behind : (S : ℕ) (base : Base) (log : List Entry) (r : Entry) → is_half r ≡ true → Follows (geometry S base) log r → IsHalfBehind base log r
half_behind S base log r is follows =
    let topic : r.topic ≡ half_topic = same_text r.topic half_topic is in
    let most : r.queue < 1 = subst (λ (t : List ℕ). r.queue < most_queues t) topic follows.admissible.queue in
    let queue : r.queue ≡ 0 = omega (arith, most) in
    record {
      queue = queue;
      queue_offset = follows.queue_offset ∙ (ap (λ (t : List ℕ). queue_end base log t r.queue) topic ∙ ap (λ (q : ℕ). queue_end base log half_topic q) queue);
      names = λ h low named. named_text (origin_text r) (queue_end base log half_topic 0) h low follows.admissible.renewal
          (subst (λ (t : List ℕ). IfSome (if bytes_eq t op_topic then number_of r.body else (if bytes_eq t half_topic then number_at (origin_text r) else None))
          (λ n. n < queue_end base log half_topic 0)) topic follows.names)
          (and_parts (is_half r) (is_text (digits_of h) (origin_text r)) named).1;
    }

-- the number that an op record names is the one of its body
body_number : (plain : Bool) (text : List ℕ) → IsSome (if plain then number_in text else None) → (plain ≡ true) × IsSome (number_in text)
body_number true text is = (refl, is)
body_number false text is = absurd (cc)

named_body : (body : List ℕ) (halves h : ℕ) → h < 2 ^ 64 → IsSome (number_of body) → IfSome (number_of body) (λ n. n < halves)
    → bytes_eq body (digits_of h) ≡ true → h < halves
named_body body halves h low some below is =
    let parts = body_number (is_utf8 body) body some in
    named_text (Some body) halves h low parts.1 (subst (λ (b : Bool). IfSome (if b then number_in body else None) (λ n. n < halves)) parts.0 below) is

counted_behind : (S : ℕ) (base : Base) (log : List Entry) (r : Entry) → Follows (geometry S base) log r → IsCountedBehind base log r
counted_behind S base log r follows = record {
  queue_offset = follows.queue_offset;
  names = λ h low is.
      let parts = and_parts (is_op r) (bytes_eq r.body (digits_of h)) is in
      named_body r.body (queue_end base log half_topic 0) h low (follows.admissible.op parts.0)
      (subst (λ (t : List ℕ). IfSome (if bytes_eq t op_topic then number_of r.body else (if bytes_eq t half_topic then number_at (origin_text r) else None))
      (λ n. n < queue_end base log half_topic 0)) (same_text r.topic op_topic parts.0) follows.names) parts.1;
}

-- there are 18 levels
level_queue : (S : ℕ) (r : Entry) → is_delayed r ≡ true → IsAdmissible S r → r.queue < 18
level_queue S r is may =
    let most : r.queue < 18 = subst (λ (t : List ℕ). r.queue < most_queues t) (same_text r.topic level_topic is) may.queue in most

follows_kept : (S : ℕ) (base : Base) (log : List Entry) (r : Entry) → 0 < S → IsKept (record { base = base; records = log })
    → Follows (geometry S base) log r → IsKept (record { base = base; records = log ++ r ∷ [] })
follows_kept S base log r some kept follows =
    let place : end_of base log ≤ r.offset = omega (arith, follows.place, place_behind S (end_of base log) (size r) some) in
    kept_one (record { base = base; records = log }) r kept (record {
      place = λ i x at. omega (arith, ends_behind (record { base = base; records = log }) i x kept at, place);
      prepared = copy_or_discard S r follows.admissible;
      bits = λ is. (half_or_delayed S r follows.admissible is).bits;
      real = λ is. plain_real (value_of (codes "REAL_TOPIC") r.props) (half_or_delayed S r follows.admissible is).topic;
      low = λ is. omega (arith, follows.queue_offset, queue_low (record { base = base; records = log }) r.topic r.queue kept, place, follows.low);
      text = λ is. renewal_text (value_of (codes "TRAN_PREPARED_QUEUE_OFFSET") r.props) follows.admissible.renewal;
      undelivered = λ is. follows.admissible.undelivered (system_topic r is);
      level = λ is. (level_queue S r is follows.admissible, omega (arith, follows.queue_offset, queue_low (record { base = base; records = log }) r.topic r.queue kept, place, follows.low));
    }) (λ is. half_behind S base log r is follows) (counted_behind S base log r follows) place

-- ---- a whole log

front_kept : (S : ℕ) (base : Base) (log : List Entry) → 0 < S → IsWellFormed (geometry S base) log → (k : ℕ) → k ≤ length log
    → IsKept (record { base = base; records = take k log })
front_kept S base log some well zero low = none_kept S base well.segment
front_kept S base log some well (suc k) low =
    let there = there_is k log (omega (arith, low)) in
    subst (λ (l : List Entry). IsKept (record { base = base; records = l })) (sym (take_next k log there.0 there.1))
    (follows_kept S base (take k log) there.0 some (front_kept S base log some well k (omega (arith, low))) (well.each k there.0 there.1))

pub lawful_kept : (S : ℕ) (log : Log) → IsLawful S log → IsKept log
lawful_kept S log lawful =
    let some : 0 < S = omega (arith, lawful.segment.low) in
    subst (λ (l : List Entry). IsKept (record { base = log.base; records = l })) (take_all (length log.records) log.records (omega arith))
    (front_kept S log.base log.records some lawful (length log.records) (omega arith))

pub opening_kept : (b : Boot) → IsOpening b → IsKeptBoot b
opening_kept b opening = record {
  sound = opening_sound b opening;
  segment = omega (arith, opening.lawful.segment.low);
  logs = λ s of. elim of [
    | inl now ↦ subst (λ (x : State). IsKept x.log) (sym now) (lawful_kept b.now.setup.segment b.now.log opening.lawful)
    | inr past ↦ absurd (subst (λ (l : List State). IsAmong l s) opening.before past)
  ];
  saved = λ topic queue. subst (λ (x : Base). x.queues topic queue ≤ x.place) (sym opening.base)
      (omega (arith, opening.lawful.segment.counted topic queue, opening.lawful.segment.some));
}
