-- What the broker makes of a record that a log may have can be written.
use Rattle.std.proofs.Common.{◌≡◌, ◌≢◌, ℕ, ◌+◌, ◌^◌, ◌<◌, ◌≤◌, ◌++◌, List, [], ◌∷◌, length, codes, true, false, not, Option, Some, None, IsSome, refl, sym, ◌∙◌, ap, arith, length-append}
use Rattle.std.specs.Prelude.{IfSome, bit_and, bit_or, unwrap_or}
use Rattle.std.specs.Str.{bytes_eq}
use Rattle.std.proofs.lemmas.Bool.{and_parts, ltb-true, le-ltb, eqb-true, eq-eqb}
use Rattle.std.proofs.lemmas.Nat.{and_assoc, and_or_apart}
use Rattle.std.proofs.lemmas.Slice.Eq.{bytes_eq-Decides}
use Rattle.std.proofs.lemmas.Fmt.{length-decimal-le}
use Rattle.mq_bytes.specs.Decimal.{digits_of}
use Rattle.record_codec.specs.Entry.{Entry}
use Rattle.record_codec.specs.Props.{value_of, written, with_prop, without}
use Rattle.record_codec.specs.Layout.{is_named, is_legal, are_hosts_short, is_entry, IsRecord}
use Rattle.record_codec.specs.Drafts.{entry_of, draft_size, draft_fault}
use Rattle.record_codec.specs.declared.draft.Draft.{Draft}
use Rattle.record_codec.specs.declared.draft.Place.{Place}
use Rattle.record_codec.proofs.DraftLemmas.{HasNoFault}
use Rattle.record_codec.proofs.LastLemmas.{value_of-other, value_of-kept}
use Rattle.record_codec.proofs.Records.{EntryFacts, said}
use Rattle.log_model.specs.Made.{text_size, prop_size}
use Rattle.log_model.specs.Admissible.{half_topic, IsAdmissible, IsPlainTopic}
use Rattle.log_model.specs.Drafts.{plain_flag, text_in, without_real, without_transaction, copy_draft, op_draft, renewed_props, renewal_draft, discard_draft, delivery_text, delivery_draft}
use Rattle.log_model.specs.Kinds.{is_half, is_delayed, origin_text}
use Rattle.log_model.proofs.MadeLemmas.{length-without, length-with_prop, length-push}

-- a draft that passes each test has no fault
no_fault : (S : ℕ) (d : Draft) → HasNoFault S d → draft_fault S d ≡ None
unfolding draft_fault
no_fault S d f =
    let named = ap not f.named in
    let topic = le-ltb 127 (length d.topic) f.topic in
    let hosts = ap not f.hosts in
    let body = le-ltb 4194304 (length d.body) f.body in
    let props = le-ltb 32767 (length (written d.props) + 14) f.props in
    let fits = le-ltb S (draft_size d + 8) f.fits in
    rw (named, topic, hosts, body, props, fits) refl

-- ---- the parts of a draft

-- a text that is there
text_holds : (o : Option (List ℕ)) (P : List ℕ → Type 0) → IsSome o → IfSome o P → P (unwrap_or o [])
text_holds (Some text) P some holds = holds
text_holds None P some holds = absurd (cc)

size_of_text : (o : Option (List ℕ)) → text_size o ≡ length (unwrap_or o [])
size_of_text (Some text) = refl
size_of_text None = refl

size_of_prop : (name : List ℕ) (o : Option (List ℕ)) → IsSome o → prop_size name o ≡ length name + text_size o + 2
size_of_prop name (Some text) some = refl
size_of_prop name None some = absurd (cc)

short_plain : (flag : ℕ) → are_hosts_short flag ≡ true → bit_and (plain_flag flag) 48 ≡ 0
short_plain flag short = and_assoc 48 flag 0xFFFF_FFF3 ∙ eqb-true (bit_and flag 48) 0 short

plain_short : (flag : ℕ) → are_hosts_short flag ≡ true → are_hosts_short (plain_flag flag) ≡ true
plain_short flag short = eq-eqb (bit_and (plain_flag flag) 48) 0 (short_plain flag short)

copy_short : (flag : ℕ) → are_hosts_short flag ≡ true → are_hosts_short (bit_or (plain_flag flag) 8) ≡ true
copy_short flag short = eq-eqb (bit_and (bit_or (plain_flag flag) 8) 48) 0 (and_or_apart 48 (plain_flag flag) 8 refl ∙ short_plain flag short)

-- a record's hosts have no more than eight bytes
hosts_of : (r : Entry) → is_entry r ≡ true → are_hosts_short r.sysflag ≡ true
unfolding is_entry
hosts_of r h =
    let props = and_parts _ _ h in
    let seal = and_parts _ _ props.0 in
    let distinct = and_parts _ _ seal.0 in
    let pairs = and_parts _ _ distinct.0 in
    let low = and_parts _ _ pairs.0 in
    (and_parts (is_legal r.topic) (are_hosts_short r.sysflag) low.0).1

-- a topic of clients
record IsTopic (topic : List ℕ) : Type 0 where
  named : is_named topic ≡ true
  short : length topic ≤ 127

is_topic : (topic : List ℕ) → is_legal topic ≡ true → IsTopic topic
is_topic topic legal = let parts = and_parts _ _ legal in
    let low : length topic < 128 = ltb-true _ _ parts.1 in
    record { named = parts.0; short = omega (arith, low) }

-- names that differ
apart : (a b : List ℕ) → bytes_eq a b ≡ false → a ≢ b
apart a b differ same = let full : false ≡ true = sym differ ∙ (bytes_eq-Decides a b).1 same in absurd (cc)

-- ---- lengths of properties

abbrev size_in : List ℕ → List (List ℕ × List ℕ) → ℕ
size_in name ps = prop_size name (value_of name ps)

kept_size : (other name : List ℕ) (ps : List (List ℕ × List ℕ)) → bytes_eq other name ≡ false → size_in other (without name ps) ≡ size_in other ps
kept_size other name ps differ = ap (prop_size other) (value_of-kept other name ps (apart other name differ))

-- without the topic and the queue that the message is for
real_within : (ps : List (List ℕ × List ℕ)) → length (written (without_real ps)) + size_in (codes "REAL_TOPIC") ps + size_in (codes "REAL_QID") ps ≤ length (written ps)
real_within ps =
    omega (arith, length-without (codes "REAL_TOPIC") ps, length-without (codes "REAL_QID") (without (codes "REAL_TOPIC") ps), kept_size (codes "REAL_QID") (codes "REAL_TOPIC") ps refl)

real_kept : (name : List ℕ) (ps : List (List ℕ × List ℕ)) → bytes_eq name (codes "REAL_TOPIC") ≡ false → bytes_eq name (codes "REAL_QID") ≡ false
    → size_in name (without_real ps) ≡ size_in name ps
real_kept name ps topic queue = kept_size name (codes "REAL_QID") (without (codes "REAL_TOPIC") ps) queue ∙ kept_size name (codes "REAL_TOPIC") ps topic

-- and without those of its transaction
transaction_within : (ps : List (List ℕ × List ℕ))
    → length (written (without_transaction ps)) + size_in (codes "TRANSACTION_CHECK_TIMES") ps + size_in (codes "TRAN_PREPARED_QUEUE_OFFSET") ps ≤ length (written ps)
transaction_within ps =
    let times = without (codes "TRANSACTION_CHECK_TIMES") ps in
    let offset = without (codes "TRAN_PREPARED_QUEUE_OFFSET") times in
    omega (
      arith,
      length-without (codes "TRANSACTION_CHECK_TIMES") ps,
      length-without (codes "TRAN_PREPARED_QUEUE_OFFSET") times,
      length-without (codes "TRAN_MSG") offset,
      kept_size (codes "TRAN_PREPARED_QUEUE_OFFSET") (codes "TRANSACTION_CHECK_TIMES") ps refl,
    )

-- with the numbers of a renewal
renewed_within : (n : ℕ) (r : Entry) → n < 100 → r.queue_offset < 2 ^ 62
    → length (written (renewed_props n r)) + size_in (codes "TRAN_PREPARED_QUEUE_OFFSET") r.props + size_in (codes "TRANSACTION_CHECK_TIMES") r.props ≤ length (written r.props) + 74
renewed_within n r low small =
    let origin = digits_of r.queue_offset in
    let once = with_prop (codes "TRAN_PREPARED_QUEUE_OFFSET") origin r.props in
    let kept : size_in (codes "TRANSACTION_CHECK_TIMES") once ≡ size_in (codes "TRANSACTION_CHECK_TIMES") r.props =
    ap (prop_size (codes "TRANSACTION_CHECK_TIMES"))
    (value_of-other (codes "TRANSACTION_CHECK_TIMES") (codes "TRAN_PREPARED_QUEUE_OFFSET") origin r.props (apart (codes "TRANSACTION_CHECK_TIMES") (codes "TRAN_PREPARED_QUEUE_OFFSET") refl)) in
    omega (
      arith,
      length-with_prop (codes "TRAN_PREPARED_QUEUE_OFFSET") origin r.props,
      length-with_prop (codes "TRANSACTION_CHECK_TIMES") (digits_of n) once,
      kept,
      length-decimal-le 19 r.queue_offset (omega arith) (omega (arith, small)) (omega (arith, small)),
      length-decimal-le 2 n (omega arith) (omega (arith, low)) (omega (arith, low)),
    )

-- with what a delivery tells in the place of its delay
delivered_within : (level number : ℕ) (ps : List (List ℕ × List ℕ)) → level < 100 → number < 2 ^ 62
    → length (written (without (codes "DELAY") (without_real ps) ++ (codes "DELAY_FROM", delivery_text level number) ∷ []))
    + size_in (codes "DELAY") ps + size_in (codes "REAL_TOPIC") ps + size_in (codes "REAL_QID") ps ≤ length (written ps) + 34
delivered_within level number ps low small =
    let real = without_real ps in
    omega (
      arith,
      length-push (codes "DELAY_FROM") (delivery_text level number) (without (codes "DELAY") real),
      length-without (codes "DELAY") real,
      real_kept (codes "DELAY") ps refl refl,
      real_within ps,
      length-append (digits_of level) (45 ∷ digits_of number),
      length-decimal-le 2 level (omega arith) (omega (arith, low)) (omega (arith, low)),
      length-decimal-le 19 number (omega arith) (omega (arith, small)) (omega (arith, small)),
    )

-- ---- what is made of a half message

module _ (S : ℕ) (r : Entry) (host : List ℕ) (is : IsRecord r) (may : IsAdmissible S r) where
  facts : EntryFacts r
  facts = said r is.entry

  hosts : are_hosts_short r.sysflag ≡ true
  hosts = hosts_of r is.entry

  in_topic : (topic : List ℕ) → bytes_eq r.topic topic ≡ true → r.topic ≡ topic
  in_topic topic same = (bytes_eq-Decides r.topic topic).0 same

  pub copy_written : is_half r ≡ true → draft_fault S (copy_draft host r) ≡ None
  copy_written half =
      let it = may.half half in
      let real = value_of (codes "REAL_TOPIC") r.props in
      let topic = is_topic (text_in (codes "REAL_TOPIC") r.props) (text_holds real IsPlainTopic it.waits.topic.0 it.waits.topic.1).0 in
      let less = transaction_within (without_real r.props) in
      let times = real_kept (codes "TRANSACTION_CHECK_TIMES") r.props refl refl in
      let offset = real_kept (codes "TRAN_PREPARED_QUEUE_OFFSET") r.props refl refl in
      let there = size_of_prop (codes "REAL_TOPIC") real it.waits.topic.0 in
      no_fault S (copy_draft host r) (record {
        named = topic.named;
        topic = topic.short;
        hosts = copy_short r.sysflag hosts;
        body = it.renewed.body;
        props = omega (arith, it.renewed.props, less, times, offset, real_within r.props);
        fits = omega (arith, it.renewed.fits, less, times, offset, real_within r.props, there, size_of_text real);
      })

  pub renewal_written : (n : ℕ) → is_half r ≡ true → n < 100 → draft_fault S (renewal_draft host n r) ≡ None
  renewal_written n half low =
      let it = may.half half in
      let long : length r.topic ≡ 24 = ap (λ (t : List ℕ). length t) (in_topic half_topic half) in
      let within = renewed_within n r low facts.queue_offset in
      no_fault S (renewal_draft host n r) (record {
        named = (and_parts _ _ facts.legal).0;
        topic = omega (arith, long);
        hosts = hosts;
        body = it.renewed.body;
        props = omega (arith, it.renewed.props, within);
        fits = omega (arith, it.renewed.fits, within, long);
      })

  pub discard_written : is_half r ≡ true → IsSome (origin_text r) → draft_fault S (discard_draft host r) ≡ None
  discard_written half renewal =
      let it = (may.half half).discarded renewal in
      no_fault S (discard_draft host r) (record {
        named = refl;
        topic = omega arith;
        hosts = plain_short r.sysflag hosts;
        body = it.body;
        props = omega (arith, it.props);
        fits = omega (arith, it.fits);
      })

  pub renewed_discard_written : (n : ℕ) (later : List ℕ) (at : Place) → is_half r ≡ true → n < 100 → draft_fault S (discard_draft later (entry_of (renewal_draft host n r) at)) ≡ None
  renewed_discard_written n later at half low =
      let it = may.half half in
      let within = renewed_within n r low facts.queue_offset in
      no_fault S (discard_draft later (entry_of (renewal_draft host n r) at)) (record {
        named = refl;
        topic = omega arith;
        hosts = plain_short r.sysflag hosts;
        body = it.renewed.body;
        props = omega (arith, it.renewed.props, within);
        fits = omega (arith, it.renewed.fits, within);
      })

  pub delivery_written : (level number : ℕ) → is_delayed r ≡ true → level < 100 → number < 2 ^ 62 → draft_fault S (delivery_draft host level number r) ≡ None
  delivery_written level number delayed low small =
      let it = may.level delayed in
      let real = value_of (codes "REAL_TOPIC") r.props in
      let topic = is_topic (text_in (codes "REAL_TOPIC") r.props) (text_holds real IsPlainTopic it.waits.topic.0 it.waits.topic.1).0 in
      let within = delivered_within level number r.props low small in
      no_fault S (delivery_draft host level number r) (record {
        named = topic.named;
        topic = topic.short;
        hosts = hosts;
        body = it.delivered.body;
        props = omega (arith, it.delivered.props, within);
        fits = omega (arith, it.delivered.fits, within, size_of_text real);
      })

-- what names a settled half has 158 bytes at most
pub op_written : (S now origin : ℕ) (host : List ℕ) → 4096 ≤ S → origin < 2 ^ 62 → draft_fault S (op_draft host now origin) ≡ None
op_written S now origin host room low =
    let digits = length-decimal-le 19 origin (omega arith) (omega (arith, low)) (omega (arith, low)) in
    no_fault S (op_draft host now origin) (record {
      named = refl;
      topic = omega arith;
      hosts = refl;
      body = omega (arith, digits);
      props = omega arith;
      fits = omega (arith, digits, room);
    })
