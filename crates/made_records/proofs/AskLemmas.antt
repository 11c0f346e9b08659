-- A half message that names its origin can be asked for.
use Rattle.std.proofs.Common.{◌≡◌, ◌∙◌, refl, ap, subst, arith, ℕ, ◌+◌, ◌^◌, ◌<◌, true, List, [], length, Option, Some, None, codes}
use Rattle.std.specs.Prelude.{not, nat_lt, unwrap_or, IsSome, option_map}
use Rattle.std.specs.Str.Parse.{digits_value}
use Rattle.std.proofs.lemmas.Bool.{le-ltb, ltb-true, and_parts}
use Rattle.record_codec.specs.Entry.{Entry}
use Rattle.record_codec.specs.Props.{value_of, written}
use Rattle.record_codec.specs.Layout.{is_named, is_legal, are_hosts_short, is_entry, IsRecord}
use Rattle.record_codec.specs.Drafts.{draft_size, draft_fault}
use Rattle.record_codec.specs.declared.draft.Record.{Record}
use Rattle.record_codec.proofs.Records.{EntryFacts, said}
use Rattle.log_model.specs.Made.{CanBeDiscarded}
use Rattle.log_model.specs.Admissible.{IsAdmissible, IsHalfMessage, IsPlainTopic, IsBelow}
use Rattle.log_model.specs.Kinds.{origin_text}
use Rattle.log_model.specs.Queues.{said_by}
use Rattle.reply_fields.specs.Asks.{text_or, real_topic, real_draft, IsAsked}
use Rattle.made_records.specs.Made.{IsHalfOf}
use Rattle.made_records.proofs.TextLemmas.{below_read, low_text, text_holds, some_text}

same_text : (o : Option (List ℕ)) → unwrap_or o [] ≡ text_or [] o
same_text None = refl
same_text (Some text) = refl

-- a record's hosts have no more than eight bytes
hosts_of : (r : Entry) → is_entry r ≡ true → are_hosts_short r.sysflag ≡ true
unfolding is_entry
hosts_of r h =
    let props = and_parts _ _ h in
    let seal = and_parts _ _ props.0 in
    let distinct = and_parts _ _ seal.0 in
    let pairs = and_parts _ _ distinct.0 in
    let low = and_parts _ _ pairs.0 in
    (and_parts (is_legal r.topic) (are_hosts_short r.sysflag) low.0).1

-- what names an origin has its text
names_some : (o : Option (List ℕ)) (n : ℕ) → option_map (digits_value 10) o ≡ Some n → IsSome o
names_some None n is = absurd (cc is)
names_some (Some text) n is = refl

module _ (S n : ℕ) (view : Record) (is : IsRecord (said_by view)) (may : IsAdmissible S (said_by view)) (named : IsHalfOf (Some n) (said_by view)) where
  abbrev props : List (List ℕ × List ℕ)
  props = view.draft.props

  facts : EntryFacts (said_by view)
  facts = said (said_by view) is.entry

  message : IsHalfMessage S (said_by view)
  message = may.half named.half

  short : CanBeDiscarded S (said_by view)
  short = message.discarded (names_some (origin_text (said_by view)) n named.name)

  legal : is_legal (real_topic props) ≡ true
  legal = subst (λ (t : List ℕ). is_legal t ≡ true) (same_text (value_of (codes "REAL_TOPIC") props))
      (text_holds (value_of (codes "REAL_TOPIC") props) IsPlainTopic message.waits.topic.0 message.waits.topic.1).0

  low : IsBelow 1024 (text_or [] (value_of (codes "REAL_QID") props))
  low = subst (IsBelow 1024) (same_text (value_of (codes "REAL_QID") props))
      (text_holds (value_of (codes "REAL_QID") props) (IsBelow 1024) message.waits.queue.0 message.waits.queue.1)

  passes : draft_fault (2 ^ 30) (real_draft view.draft) ≡ None
  unfolding draft_fault
  passes =
      let parts = and_parts (is_named (real_topic props)) (nat_lt (length (real_topic props)) 128) legal in
      let few : length (real_topic props) < 128 = ltb-true (length (real_topic props)) 128 parts.1 in
      let most = short.props in
      let least = short.body in
      let fault_topic = ap not parts.0 in
      let topic = le-ltb 127 (length (real_topic props)) (omega (arith, few)) in
      let hosts = ap not (hosts_of (said_by view) is.entry) in
      let body = le-ltb 4194304 (length view.draft.body) least in
      let sizes = le-ltb 32767 (length (written props) + 14) (omega (arith, most)) in
      let fits = le-ltb (2 ^ 30) (draft_size (real_draft view.draft) + 8) (omega (arith, few, most, least)) in
      rw (fault_topic, topic, hosts, body, sizes, fits) refl

  pub half_asked : IsAsked view
  half_asked = record {
    topic = legal;
    queue = below_read (text_or [] (value_of (codes "REAL_QID") props)) 1024 low;
    decimal = some_text (value_of (codes "REAL_QID") props) message.waits.queue.0
        ∙ ap (λ (t : List ℕ). Some t) (same_text (value_of (codes "REAL_QID") props) ∙ low_text (text_or [] (value_of (codes "REAL_QID") props)) low);
    encodable = record {
      passes = passes;
      born = facts.born;
      prepared = facts.prepared;
      queue_offset = facts.queue_offset;
      offset = facts.offset;
      store = facts.store;
      unsealed = facts.no_seal;
    };
  }
