-- The check-back of a half message that may stand in the log.
use Rattle.std.proofs.Common.{◌≡◌, ◌∙◌, ℕ, ◌+◌, ◌^◌, ◌<◌, true, List, [], length, codes, Option, Some, None, refl, ap, subst, arith}
use Rattle.std.specs.Prelude.{not, IsSome, IfSome}
use Rattle.std.specs.Str.Parse.{digits_value}
use Rattle.std.proofs.lemmas.Bool.{and_parts, eq-eqb, ltb-true, le-ltb}
use Rattle.std.proofs.lemmas.Slice.Eq.{bytes_eq-Decides}
use Rattle.mq_bytes.specs.Decimal.{digits_of}
use Rattle.record_codec.specs.Layout.{is_named, is_legal}
use Rattle.record_codec.specs.Props.{value_of, written}
use Rattle.record_codec.specs.Drafts.{draft_fault, draft_size, entry_of}
use Rattle.record_codec.specs.declared.draft.Draft.{Draft}
use Rattle.record_codec.specs.declared.draft.Place.{Place}
use Rattle.record_codec.proofs.DraftLemmas.{HasNoFault, HasNoFault-from}
use Rattle.log_model.specs.Admissible.{IsBelow, IsPlainTopic, IsHalfMessage}
use Rattle.half_view.proofs.NumberLemmas.{number_is, text_names}
use Rattle.reply_fields.specs.Asks.{IsAsked, text_or, real_topic, real_draft}
use Rattle.broker_core.specs.Checks.{IsHalfDraft}

legal_in : (o : Option (List ℕ)) → IsSome o → IfSome o IsPlainTopic → is_legal (text_or [] o) ≡ true
legal_in None some plain = cc some
legal_in (Some text) some plain = plain.0

-- the queue is a number, written as it is read
record IsQueue (o : Option (List ℕ)) : Type 0 where
  pub low : digits_value 10 (text_or [] o) < 1024
  pub decimal : o ≡ Some (digits_of (digits_value 10 (text_or [] o)))

queue_in : (o : Option (List ℕ)) → IsSome o → IfSome o (IsBelow 1024) → IsQueue o
queue_in None some below = cc some
queue_in (Some text) some below =
    let n = digits_value 10 text in
    let low : n < 1024 = subst (λ (o : Option ℕ). IfSome o (λ k. k < 1024)) (number_is text below.1) below.0 in
    let same = text_names text n (omega (arith, low)) below.1 ∙ eq-eqb n n refl in
    record { low = low; decimal = ap (λ (t : List ℕ). Some t) ((bytes_eq-Decides text (digits_of n)).0 same) }

module _ (S : ℕ) (d : Draft) (p : Place) (size : ℕ) (is : IsHalfDraft S d p) where
  message : IsHalfMessage S (entry_of d p)
  message = is.admissible.half is.half

  facts : HasNoFault (2 ^ 30) d
  facts = HasNoFault-from (2 ^ 30) d is.encodable.passes

  legal : is_legal (real_topic d.props) ≡ true
  legal = legal_in (value_of (codes "REAL_TOPIC") d.props) message.waits.topic.0 message.waits.topic.1

  queue : IsQueue (value_of (codes "REAL_QID") d.props)
  queue = queue_in (value_of (codes "REAL_QID") d.props) message.waits.queue.0 message.waits.queue.1

  -- it can be written as the message that it will be
  passes : draft_fault (2 ^ 30) (real_draft d) ≡ None
  unfolding draft_fault
  passes =
      let parts = and_parts (is_named (real_topic d.props)) _ legal in
      let short = ltb-true (length (real_topic d.props)) 128 parts.1 in
      let most = facts.body in
      let few = facts.props in
      let named = ap not parts.0 in
      let topic = le-ltb 127 (length (real_topic d.props)) (omega (arith, short)) in
      let hosts = ap not facts.hosts in
      let body = le-ltb 4194304 (length d.body) most in
      let props = le-ltb 32767 (length (written d.props) + 14) few in
      let fits = le-ltb (2 ^ 30) (draft_size (real_draft d) + 8) (omega (arith, short, most, few)) in
      rw (named, topic, hosts, body, props, fits) refl

  pub asked : IsAsked (record { draft = d; place = p; size = size })
  asked = record {
    topic = legal;
    queue = queue.low;
    decimal = queue.decimal;
    encodable = record {
      passes = passes;
      born = is.encodable.born;
      prepared = is.encodable.prepared;
      queue_offset = is.encodable.queue_offset;
      offset = is.encodable.offset;
      store = is.encodable.store;
      unsealed = is.encodable.unsealed;
    };
  }
