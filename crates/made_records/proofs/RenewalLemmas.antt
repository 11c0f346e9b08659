-- A renewal of a half message is a half message again, which can be renewed and discarded.
use Rattle.std.proofs.Common.{◌≡◌, ◌∙◌, refl, ap, sym, subst, arith, ℕ, ◌+◌, ◌<◌, ◌≤◌, Bool, true, false, List, length, Option, Some, None, codes}
use Rattle.std.specs.Prelude.{IsSome, IfSome, option_map, if◌then◌else◌}
use Rattle.std.specs.Str.{bytes_eq}
use Rattle.std.specs.Str.Parse.{digits_value}
use Rattle.std.proofs.lemmas.Slice.Eq.{bytes_eq-Decides}
use Rattle.std.proofs.lemmas.Fmt.{length-decimal-le}
use Rattle.mq_bytes.specs.Decimal.{digits_of}
use Rattle.record_codec.specs.Entry.{Entry}
use Rattle.record_codec.specs.Props.{value_of, with_prop, written}
use Rattle.record_codec.specs.Layout.{IsRecord}
use Rattle.record_codec.specs.Drafts.{entry_of}
use Rattle.record_codec.specs.declared.draft.Place.{Place}
use Rattle.record_codec.proofs.Records.{EntryFacts, said}
use Rattle.log_model.specs.Made.{prop_size, prop_size_in, CanBeRenewed, CanBeDiscarded}
use Rattle.log_model.specs.Admissible.{half_topic, op_topic, discard_topic, level_topic, is_system_topic, number_in, number_at, number_of, IsAdmissible, IsHalfMessage, IsPlainTopic, IsBelow, IsDelayFrom, NamesEarlier, Has}
use Rattle.log_model.specs.Kinds.{is_half, origin_text}
use Rattle.log_model.specs.Drafts.{renewal_draft}
use Rattle.log_model.proofs.MadeLemmas.{length-with_prop}
use Rattle.log_model.proofs.Makes.{renewal_written}
use Rattle.half_view.proofs.NumberLemmas.{number_value}
use Rattle.made_records.specs.Made.{CanStand, IsHalfOf}
use Rattle.made_records.proofs.TextLemmas.{number_in_digits, never, no_eight}
use Rattle.made_records.proofs.PropLemmas.{unnamed, stays, renewed_value, renewed_origin, renewed_times, not_delivered}
use Rattle.made_records.proofs.CopyLemmas.{no_mark}

-- a record with the topic of half messages has none of the broker's other topics
pub record IsOfHalves (topic : List ℕ) : Type 0 where
  pub level : bytes_eq topic level_topic ≡ false
  pub op : bytes_eq topic op_topic ≡ false
  pub discard : bytes_eq topic discard_topic ≡ false
  pub system : is_system_topic topic ≡ true

pub of_halves : (topic : List ℕ) → topic ≡ half_topic → IsOfHalves topic
of_halves topic is = record {
  level = ap (λ (t : List ℕ). bytes_eq t level_topic) is;
  op = ap (λ (t : List ℕ). bytes_eq t op_topic) is;
  discard = ap (λ (t : List ℕ). bytes_eq t discard_topic) is;
  system = ap is_system_topic is;
}

module _ (S halves n : ℕ) (h : Entry) (host : List ℕ) (p : Place) (is : IsRecord h) (may : IsAdmissible S h) (half : is_half h ≡ true) (few : n ≤ 15) (there : h.queue_offset < halves) where
  abbrev made : Entry
  made = entry_of (renewal_draft host n h) p

  message : IsHalfMessage S h
  message = may.half half

  facts : EntryFacts h
  facts = said h is.entry

  topic : IsOfHalves h.topic
  topic = of_halves h.topic ((bytes_eq-Decides h.topic half_topic).0 half)

  same_value : (name : List ℕ) → bytes_eq name (codes "TRANSACTION_CHECK_TIMES") ≡ false → bytes_eq name (codes "TRAN_PREPARED_QUEUE_OFFSET") ≡ false
      → value_of name made.props ≡ value_of name h.props
  same_value name times offset = renewed_value name n h times offset

  same_has : (name : List ℕ) (P : List ℕ → Type 0) → bytes_eq name (codes "TRANSACTION_CHECK_TIMES") ≡ false → bytes_eq name (codes "TRAN_PREPARED_QUEUE_OFFSET") ≡ false
      → Has name h P → Has name made P
  same_has name P times offset has = subst (λ (o : Option (List ℕ)). IsSome o × IfSome o P) (sym (same_value name times offset)) has

  -- ---- the bytes of its properties: its own two are those that go, and those that come

  origin_size : prop_size_in (codes "TRAN_PREPARED_QUEUE_OFFSET") made ≡ 28 + length (digits_of h.queue_offset)
  origin_size = ap (prop_size (codes "TRAN_PREPARED_QUEUE_OFFSET")) (renewed_origin n h) ∙ omega arith

  times_size : prop_size_in (codes "TRANSACTION_CHECK_TIMES") made ≡ 25 + length (digits_of n)
  times_size = ap (prop_size (codes "TRANSACTION_CHECK_TIMES")) (renewed_times n h) ∙ omega arith

  same_size : length (written made.props) + prop_size_in (codes "TRAN_PREPARED_QUEUE_OFFSET") h + prop_size_in (codes "TRANSACTION_CHECK_TIMES") h
      ≡ length (written h.props) + prop_size_in (codes "TRAN_PREPARED_QUEUE_OFFSET") made + prop_size_in (codes "TRANSACTION_CHECK_TIMES") made
  same_size =
      let origin = digits_of h.queue_offset in
      let once = with_prop (codes "TRAN_PREPARED_QUEUE_OFFSET") origin h.props in
      let other = ap (prop_size (codes "TRANSACTION_CHECK_TIMES")) (stays (codes "TRANSACTION_CHECK_TIMES") (codes "TRAN_PREPARED_QUEUE_OFFSET") origin h.props refl) in
      omega (
        arith,
        length-with_prop (codes "TRAN_PREPARED_QUEUE_OFFSET") origin h.props,
        length-with_prop (codes "TRANSACTION_CHECK_TIMES") (digits_of n) once,
        other,
        origin_size,
        times_size,
      )

  sizes_low : prop_size_in (codes "TRAN_PREPARED_QUEUE_OFFSET") made + prop_size_in (codes "TRANSACTION_CHECK_TIMES") made ≤ 74
  sizes_low =
      let low = facts.queue_offset in
      omega (
        arith,
        origin_size,
        times_size,
        length-decimal-le 19 h.queue_offset (omega arith) (omega (arith, low)) (omega (arith, low)),
        length-decimal-le 2 n (omega arith) (omega (arith, few)) (omega (arith, few)),
      )

  renewed_again : CanBeRenewed S made
  renewed_again =
      let before = message.renewed in
      record {
        body = before.body;
        props = let most = before.props in omega (arith, most, same_size);
        fits = let most = before.fits in omega (arith, most, same_size);
      }

  discarded_then : CanBeDiscarded S made
  discarded_then =
      let before = message.renewed in
      record {
        body = before.body;
        props = let most = before.props in omega (arith, most, same_size, sizes_low);
        fits = let most = before.fits in omega (arith, most, same_size, sizes_low);
      }

  -- ---- the record

  message_again : IsHalfMessage S made
  message_again = record {
    waits = record {
      topic = same_has (codes "REAL_TOPIC") IsPlainTopic refl refl message.waits.topic;
      queue = same_has (codes "REAL_QID") (IsBelow 1024) refl refl message.waits.queue;
      bits = message.waits.bits;
    };
    group = subst (λ (o : Option (List ℕ)). IsSome o) (sym (same_value (codes "PGROUP") refl refl)) message.group;
    renewed = renewed_again;
    discarded = λ some. discarded_then;
  }

  number : number_in (digits_of h.queue_offset) ≡ Some h.queue_offset
  number = number_in_digits h.queue_offset facts.queue_offset

  unmarked : value_of (codes "DELAY_FROM") made.props ≡ None
  unmarked = same_value (codes "DELAY_FROM") refl refl ∙ no_mark S h may half

  admissible : IsAdmissible S made
  admissible = record {
    queue = may.queue;
    copy = λ eight. no_eight _ message.waits.bits eight;
    discard = λ yes. never _ topic.discard yes;
    half = λ yes. message_again;
    level = λ yes. never _ topic.level yes;
    op = λ yes. never _ topic.op yes;
    renewal = subst (λ (o : Option (List ℕ)). IfSome o (λ text. IsSome (number_in text))) (sym (renewed_origin n h)) (subst (λ (o : Option ℕ). IsSome o) (sym number) refl);
    delivery = subst (λ (o : Option (List ℕ)). IfSome o IsDelayFrom) (sym unmarked) tt;
    undelivered = λ yes. unmarked;
  }

  names_origin : NamesEarlier halves made
  names_origin =
      subst (λ (b : Bool). IfSome (if b then number_of made.body else (if bytes_eq h.topic half_topic then number_at (origin_text made) else None)) (λ k. k < halves)) (sym topic.op)
      (subst (λ (b : Bool). IfSome (if b then number_at (origin_text made) else None) (λ k. k < halves)) (sym half)
      (subst (λ (o : Option (List ℕ)). IfSome (number_at o) (λ k. k < halves)) (sym (renewed_origin n h))
      (subst (λ (o : Option ℕ). IfSome o (λ k. k < halves)) (sym number) there)))

  pub renewal_stands : CanStand S halves (renewal_draft host n h) p
  renewal_stands = record {
    passes = renewal_written S h host is may n half (omega (arith, few));
    born = facts.born;
    prepared = omega arith;
    unsealed = unnamed (codes "SEAL") (codes "TRANSACTION_CHECK_TIMES") (digits_of n) (with_prop (codes "TRAN_PREPARED_QUEUE_OFFSET") (digits_of h.queue_offset) h.props) refl
        (unnamed (codes "SEAL") (codes "TRAN_PREPARED_QUEUE_OFFSET") (digits_of h.queue_offset) h.props refl facts.no_seal);
    admissible = admissible;
    names = names_origin;
  }

  pub renewal_kind : IsHalfOf (Some h.queue_offset) (entry_of (renewal_draft host n h) p)
  renewal_kind =
      let low = facts.queue_offset in
      record {
        half = half;
        name = ap (option_map (digits_value 10)) (renewed_origin n h) ∙ ap (λ (k : ℕ). Some k) (number_value h.queue_offset (omega (arith, low)));
        other = record { plain = topic.level; none = not_delivered made unmarked };
      }
