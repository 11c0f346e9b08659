-- What is made of a delayed message may stand in the log, and is of one kind.
use Rattle.std.proofs.Common.{◌≡◌, ◌≢◌, ◌∙◌, refl, ap, sym, subst, arith, ℕ, zero, suc, ◌^◌, ◌<◌, ◌≤◌, Bool, true, false, List, [], ◌∷◌, ◌++◌, length, get_or, Option, Some, None, codes, pos}
use Rattle.std.specs.Prelude.{◌==◌, ◌||◌, not, unwrap_or, IsSome, IfSome, option_map, if◌then◌else◌}
use Rattle.std.specs.Str.{bytes_eq, all_ascii_digits}
use Rattle.std.specs.Str.Parse.{digits_value}
use Rattle.std.specs.Fmt.{digits}
use Rattle.std.proofs.lemmas.Bool.{lt-ltb, ne_eqb, and_from}
use Rattle.std.proofs.lemmas.Slice.Eq.{bytes_eq-Decides}
use Rattle.std.proofs.lemmas.Str.Parse.{IsNumeralModel, numerals_by_value, tells_all_ascii_digits}
use Rattle.mq_bytes.specs.Decimal.{digits_of, decimal_value}
use Rattle.mq_bytes.proofs.DecimalLaws.{digits_of_are_plain, decimal_value-decimal}
use Rattle.record_codec.specs.Entry.{Entry}
use Rattle.record_codec.specs.Props.{value_of, without, until, lacks}
use Rattle.record_codec.specs.Drafts.{entry_of}
use Rattle.record_codec.specs.declared.draft.Place.{Place}
use Rattle.record_codec.proofs.PairTexts.{until-first}
use Rattle.record_codec.proofs.LastLemmas.{value_of-kept}
use Rattle.log_model.specs.Admissible.{level_topic, half_topic, op_topic, discard_topic, is_system_topic, most_queues, is_bare, low_number, number_in, IsBelow, IsLevel, IsDelayFrom, IsAdmissible, IsDelayedMessage, IsPlainTopic}
use Rattle.log_model.specs.Kinds.{is_delivery, is_text, level_part}
use Rattle.log_model.specs.Drafts.{text_in, without_real, delivery_draft, delivery_text}
use Rattle.record_copies.proofs.NumberLemmas.{number_is}
use Rattle.delay_view.specs.OfLog.{IsCopyOf}
use Rattle.level_records.proofs.DigitLemmas.{other_text}
use Rattle.core_log.specs.Appends.{IsMessage}

-- ---- numbers as texts

first_bare : (text : List ℕ) → 48 < get_or text 0 0 → is_bare text ≡ true
first_bare [] digit = absurd (omega (arith, digit))
first_bare (c ∷ text) digit =
    let minus = ne_eqb c 45 (λ e. omega (arith, e, digit)) in
    let zero_digit = ne_eqb c 48 (λ e. omega (arith, e, digit)) in
    let some = lt-ltb 0 (suc (length text)) (omega arith) in
    rw (some, minus, zero_digit) refl

bare : (n : ℕ) → n < 2 ^ 64 → is_bare (digits_of n) ≡ true
unfolding digits
bare zero low = refl
bare (suc n) low = first_bare (digits_of (suc n)) ((digits_of_are_plain (suc n) low).2 (omega arith))

-- a number's text is read as that number
pub number_in_digits : (n : ℕ) → n < 2 ^ 62 → number_in (digits_of n) ≡ Some n
number_in_digits n low =
    ap (λ (b : Bool). if b then low_number (decimal_value (digits_of n)) else None) (bare n (omega (arith, low)))
    ∙ ap low_number (decimal_value-decimal (pos n) (omega (arith, low)))
    ∙ ap (λ (b : Bool). if b then Some n else None) (lt-ltb n (2 ^ 62) low)

model : IsNumeralModel (λ ds. all_ascii_digits ds ≡ true) (digits_value 10)
model = numerals_by_value (λ ds. all_ascii_digits ds ≡ true) tells_all_ascii_digits

no_dash : (text : List ℕ) → all_ascii_digits text ≡ true → lacks 45 text ≡ true
no_dash [] plain = refl
no_dash (c ∷ text) plain =
    let parts = tells_all_ascii_digits.parts c text plain in
    and_from (not (c == 45)) (lacks 45 text) (ap not (ne_eqb c 45 (λ e. omega (arith, e, parts.0.0)))) (no_dash text parts.1)

-- a level, a dash, and a number
pub text_parts : (level number : ℕ) → level < 2 ^ 64 → until 45 (delivery_text level number) ≡ Some (digits_of level, digits_of number)
text_parts level number low = until-first 45 (digits_of level) (digits_of number) (no_dash (digits_of level) (model.from (digits_of level) (digits_of_are_plain level low).0.1))

text_equal : (a : List ℕ) → bytes_eq a a ≡ true
text_equal a = (bytes_eq-Decides a a).1 refl

-- ---- a property behind others

pub end_value : (name value : List ℕ) (ps : List (List ℕ × List ℕ)) → value_of name ps ≡ None → value_of name (ps ++ (name, value) ∷ []) ≡ Some value
end_value name value [] none = ap (λ (b : Bool). if b then Some value else None) (text_equal name)
end_value name value (p ∷ ps) none = by_test (bytes_eq name p.0) (λ rest. end_value name value ps rest) none
  where
    by_test : (b : Bool) → (value_of name ps ≡ None → value_of name (ps ++ (name, value) ∷ []) ≡ Some value) → (if b then Some p.1 else value_of name ps) ≡ None → (if b then Some p.1 else value_of name (ps ++ (name, value) ∷ [])) ≡ Some value
    by_test true on here = absurd (cc)
    by_test false on rest = on rest

pub other_value : (name other value : List ℕ) (ps : List (List ℕ × List ℕ)) → bytes_eq name other ≡ false → value_of name (ps ++ (other, value) ∷ []) ≡ value_of name ps
other_value name other value [] apart = ap (λ (b : Bool). if b then Some value else None) apart
other_value name other value (p ∷ ps) apart = ap (λ (o : Option (List ℕ)). if bytes_eq name p.0 then Some p.1 else o) (other_value name other value ps apart)

-- ---- the delivery of a message

differ : (a b : List ℕ) → bytes_eq a b ≡ false → a ≢ b
differ a b apart same = let bad : false ≡ true = sym apart ∙ (bytes_eq-Decides a b).1 same in cc bad

text_holds : (o : Option (List ℕ)) (P : List ℕ → Type 0) → IsSome o → IfSome o P → P (unwrap_or o [])
text_holds None P there is = absurd (cc)
text_holds (Some text) P there is = is

-- a topic of clients is none of the broker's
record IsApart (topic : List ℕ) : Type 0 where
  level : bytes_eq topic level_topic ≡ false
  half : bytes_eq topic half_topic ≡ false
  op : bytes_eq topic op_topic ≡ false
  discard : bytes_eq topic discard_topic ≡ false

four : (a b c d : Bool) → (a || b || c || d) ≡ false → (a ≡ false) × (b ≡ false) × (c ≡ false) × (d ≡ false)
four true b c d fails = absurd (cc)
four false true c d fails = absurd (cc)
four false false true d fails = absurd (cc)
four false false false true fails = absurd (cc)
four false false false false fails = (refl, refl, refl, refl)

apart_of : (topic : List ℕ) → is_system_topic topic ≡ false → IsApart topic
apart_of topic plain =
    let h = four (bytes_eq topic level_topic) (bytes_eq topic half_topic) (bytes_eq topic op_topic) (bytes_eq topic discard_topic) plain in
    record { level = h.0; half = h.1; op = h.2; discard = h.3 }

never : {A : Type 0} (b : Bool) → b ≡ false → b ≡ true → A
never b fails holds = let e : false ≡ true = sym fails ∙ holds in absurd (cc)

pub below : (text : List ℕ) (bound : ℕ) → IsBelow bound text → digits_value 10 text < bound
below text bound is = of_number (number_in text) is.0 (number_is text is.1)
  where
    of_number : (o : Option ℕ) → IfSome o (λ k. k < bound) → o ≡ Some (digits_value 10 text) → digits_value 10 text < bound
    of_number o low at = subst (λ (p : Option ℕ). IfSome p (λ k. k < bound)) at low

module _ (S level number : ℕ) (r : Entry) (host : List ℕ) (p : Place) (may : IsAdmissible S r) (in_level : r.topic ≡ level_topic) (first : 1 ≤ level) (last : level ≤ 18) (few : number < 2 ^ 62) where
  abbrev made : Entry
  made = entry_of (delivery_draft host level number r) p

  abbrev kept : List (List ℕ × List ℕ)
  kept = without (codes "DELAY") (without_real r.props)

  message : IsDelayedMessage S r
  message = may.level ((bytes_eq-Decides r.topic level_topic).1 in_level)

  plain : is_system_topic (text_in (codes "REAL_TOPIC") r.props) ≡ false
  plain = (text_holds (value_of (codes "REAL_TOPIC") r.props) IsPlainTopic message.waits.topic.0 message.waits.topic.1).1

  apart : IsApart (text_in (codes "REAL_TOPIC") r.props)
  apart = apart_of (text_in (codes "REAL_TOPIC") r.props) plain

  kept_value : (name : List ℕ) → bytes_eq name (codes "DELAY") ≡ false → bytes_eq name (codes "REAL_QID") ≡ false → bytes_eq name (codes "REAL_TOPIC") ≡ false
      → value_of name kept ≡ value_of name r.props
  kept_value name delay queue topic =
      value_of-kept name (codes "DELAY") (without_real r.props) (differ name (codes "DELAY") delay)
      ∙ value_of-kept name (codes "REAL_QID") (without (codes "REAL_TOPIC") r.props) (differ name (codes "REAL_QID") queue)
      ∙ value_of-kept name (codes "REAL_TOPIC") r.props (differ name (codes "REAL_TOPIC") topic)

  mark : value_of (codes "DELAY_FROM") (kept ++ (codes "DELAY_FROM", delivery_text level number) ∷ []) ≡ Some (delivery_text level number)
  mark = end_value (codes "DELAY_FROM") (delivery_text level number) kept
      (kept_value (codes "DELAY_FROM") refl refl refl ∙ may.undelivered (ap is_system_topic in_level ∙ refl))

  from : IsDelayFrom (delivery_text level number)
  from = subst (λ (o : Option (List ℕ × List ℕ)). IfSome o (λ q. IsLevel q.0 × IsSome (number_in q.1)) × IsSome o) (sym (text_parts level number (omega (arith, last)))) (
    (
      subst (λ (o : Option ℕ). IfSome o (λ n. (1 ≤ n) × (n ≤ 18)) × IsSome o) (sym (number_in_digits level (omega (arith, last)))) ((first, last), refl),
      subst (λ (o : Option ℕ). IsSome o) (sym (number_in_digits number few)) refl,
    ),
    refl,
  )

  pub made_admissible : IsAdmissible S made
  made_admissible = record {
    queue = let low = below (text_in (codes "REAL_QID") r.props) 1024 (text_holds (value_of (codes "REAL_QID") r.props) (IsBelow 1024) message.waits.queue.0 message.waits.queue.1) in
        omega (arith, low, most_of (text_in (codes "REAL_TOPIC") r.props) apart.level plain);
    copy = λ is. absurd (let none = message.waits.bits in let e : 8 ≡ 0 = sym is ∙ none in cc e);
    discard = never _ apart.discard;
    half = never _ apart.half;
    level = never _ apart.level;
    op = never _ apart.op;
    renewal = subst (λ (o : Option (List ℕ)). IfSome o (λ text. IsSome (number_in text)))
        (sym (other_value (codes "TRAN_PREPARED_QUEUE_OFFSET") (codes "DELAY_FROM") (delivery_text level number) kept refl
        ∙ kept_value (codes "TRAN_PREPARED_QUEUE_OFFSET") refl refl refl)) may.renewal;
    delivery = subst (λ (o : Option (List ℕ)). IfSome o IsDelayFrom) (sym mark) from;
    undelivered = never _ plain;
  }
    where
      most_of : (topic : List ℕ) → bytes_eq topic level_topic ≡ false → is_system_topic topic ≡ false → most_queues topic ≡ 1024
      most_of topic level system = ap (λ (b : Bool). if b then 18 else (if is_system_topic topic then 1 else 1024)) level ∙ ap (λ (b : Bool). if b then 1 else 1024) system

  tells : (other : ℕ) → is_delivery other made ≡ bytes_eq (digits_of level) (digits_of other)
  tells other = ap (λ (o : Option (List ℕ)). is_text (digits_of other) (level_part o)) mark
      ∙ ap (λ (o : Option (List ℕ × List ℕ)). is_text (digits_of other) (option_map (λ q. q.0) o)) (text_parts level number (omega (arith, last)))

  pub made_kind : IsCopyOf level made
  made_kind = record {
    plain = apart.level;
    delivers = tells level ∙ text_equal (digits_of level);
    none = λ other differs. tells other ∙ other_text level other (omega (arith, last)) differs;
  }

  -- and is no half message, and settles none
  pub made_message : IsMessage made
  made_message = record {
    half = apart.half;
    op = apart.op;
    copied = ap (λ (n : ℕ). n == 8) message.waits.bits;
    discard = apart.discard;
  }
