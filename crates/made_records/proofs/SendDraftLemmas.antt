-- The draft of a send that isn't refused can be written.
use Rattle.std.proofs.Common.{◌≡◌, ℕ, ◌+◌, ◌^◌, ◌<◌, ◌≤◌, ◌++◌, List, [], ◌∷◌, length, codes, Bool, true, false, not, eqb, Option, Some, None, refl, ap, sym, ◌∙◌, ⊎_elim, arith, length-append}
use Rattle.std.specs.Prelude.{filter, bit_and}
use Rattle.std.specs.List.{filter_map, cons_option}
use Rattle.std.specs.Str.{bytes_eq}
use Rattle.std.proofs.lemmas.Bool.{cases_Bool, and_parts, ltb-true, le-ltb, eqb-true, eq-eqb}
use Rattle.std.proofs.lemmas.Nat.{and_assoc}
use Rattle.std.proofs.lemmas.Slice.Eq.{bytes_eq-Decides}
use Rattle.record_codec.specs.Props.{written, pair_text, pair_in, with_prop, without, has_name, value_of}
use Rattle.record_codec.specs.LaxProps.{in_front, pieces, with_all, read_props}
use Rattle.record_codec.specs.Layout.{is_named, are_hosts_short}
use Rattle.record_codec.specs.Drafts.{draft_fault, draft_size}
use Rattle.record_codec.specs.declared.draft.Draft.{Draft}
use Rattle.log_model.specs.Admissible.{is_system_topic}
use Rattle.record_codec.proofs.PairTexts.{pair_takes}
use Rattle.record_codec.proofs.LastLemmas.{value_of-dropped}
use Rattle.log_model.specs.Drafts.{plain_flag}
use Rattle.request_fields.specs.Requests.{SendSaid}
use Rattle.broker_model.specs.Sends.{flag_of, queue_named, kept_props, plain_draft}
use Rattle.made_records.proofs.RowLemmas.{IsTaken, no_bits}

-- A draft that can be written into a segment, and is a plain message to one of 1,024 queues and no copy of a half message.
pub record IsPlainDraft (segment : ℕ) (d : Draft) : Type 0 where
  pub passes : draft_fault segment d ≡ None
  pub born : d.born < 2 ^ 62
  pub prepared : d.prepared < 2 ^ 62
  pub unsealed : has_name (codes "SEAL") d.props ≡ false
  pub queue : d.queue < 1024
  pub bits : bit_and d.sysflag 12 ≡ 0
  pub topic : is_system_topic d.topic ≡ false
  pub delivery : value_of (codes "DELAY_FROM") d.props ≡ None
  pub renewal : value_of (codes "TRAN_PREPARED_QUEUE_OFFSET") d.props ≡ None

-- the lengths of the pieces together, where one byte is counted behind each
abbrev weight : List (List ℕ) → ℕ
weight [] = 0
weight (piece ∷ ps) = length piece + 1 + weight ps

weight-in_front : (b : ℕ) (ps : List (List ℕ)) → 0 < weight ps → weight (in_front b ps) ≡ weight ps + 1
weight-in_front b [] some = absurd (omega arith)
weight-in_front b (piece ∷ ps) some = omega arith

weight-pieces : (x : ℕ) (text : List ℕ) → weight (pieces x text) ≡ length text + 1
unfolding pieces
weight-pieces x [] = refl
weight-pieces x (b ∷ text) =
    let rest = weight-pieces x text in
    ⊎_elim
    (λ (here : eqb b x ≡ true). rw here (omega (arith, rest)))
    (λ (later : eqb b x ≡ false). rw later (omega (arith, weight-in_front b (pieces x text) (omega (arith, rest)), rest)))
    (cases_Bool (eqb b x))

length-pair_text : (p : List ℕ × List ℕ) → length (pair_text p) ≡ length p.0 + length p.1 + 2
length-pair_text p = omega (arith, length-append p.0 (1 ∷ (p.1 ++ 2 ∷ [])), length-append p.1 (2 ∷ []))

length-written : (p : List ℕ × List ℕ) (ps : List (List ℕ × List ℕ)) → length (written (p ∷ ps)) ≡ length p.0 + length p.1 + 2 + length (written ps)
length-written p ps = omega (arith, length-append (pair_text p) (written ps), length-pair_text p)

-- a pair that is read from a piece is as long as it, with one byte behind it
length-pair_in : (piece : List ℕ) (p : List ℕ × List ℕ) → pair_in piece ≡ Some p → length p.0 + length p.1 + 2 ≡ length piece + 1
length-pair_in piece p h = omega (arith, ap (λ (t : List ℕ). length t) (pair_takes piece p h).0, length-append p.0 (1 ∷ p.1))

pair_within : (piece : List ℕ) (more : List (List ℕ × List ℕ)) (n : ℕ) (o : Option (List ℕ × List ℕ)) → pair_in piece ≡ o → length (written more) ≤ n
    → length (written (cons_option o more)) ≤ length piece + 1 + n
pair_within piece more n None h le = omega (arith, le)
pair_within piece more n (Some p) h le = omega (arith, length-written p more, length-pair_in piece p h, le)

-- the pairs that are read from pieces are no longer than these
pairs_within : (ps : List (List ℕ)) → length (written (filter_map pair_in ps)) ≤ weight ps
pairs_within [] = omega arith
pairs_within (piece ∷ ps) = pair_within piece (filter_map pair_in ps) (weight ps) (pair_in piece) refl (pairs_within ps)

pub with_prop_within : (name value : List ℕ) (ps : List (List ℕ × List ℕ)) → length (written (with_prop name value ps)) ≤ length (written ps) + length name + length value + 2
with_prop_within name value [] = omega (arith, length-written (name, value) [])
with_prop_within name value (p ∷ ps) = ⊎_elim
    (λ (here : bytes_eq name p.0 ≡ true).
    let same : name ≡ p.0 = (bytes_eq-Decides name p.0).0 here in
    rw here (omega (arith, length-written (p.0, value) ps, length-written p ps, ap (λ (t : List ℕ). length t) same)))
    (λ (later : bytes_eq name p.0 ≡ false). rw later (omega (arith, length-written p (with_prop name value ps), length-written p ps, with_prop_within name value ps)))
    (cases_Bool (bytes_eq name p.0))

with_all_within : (ps more : List (List ℕ × List ℕ)) → length (written (with_all ps more)) ≤ length (written ps) + length (written more)
with_all_within ps [] = omega arith
with_all_within ps (p ∷ more) = omega (arith, with_all_within (with_prop p.0 p.1 ps) more, with_prop_within p.0 p.1 ps, length-written p more)

-- what is read of a text is written with at most one byte more than it has: the last separator
pub read_within : (text : List ℕ) → length (written (read_props text)) ≤ length text + 1
unfolding read_props
read_within text = omega (arith, with_all_within [] (filter_map pair_in (pieces 2 text)), pairs_within (pieces 2 text), weight-pieces 2 text)

pub filter_within : (keep : List ℕ × List ℕ → Bool) (ps : List (List ℕ × List ℕ)) → length (written (filter keep ps)) ≤ length (written ps)
filter_within keep [] = omega arith
filter_within keep (p ∷ ps) = ⊎_elim
    (λ (kept : keep p ≡ true). rw kept (omega (arith, length-written p (filter keep ps), length-written p ps, filter_within keep ps)))
    (λ (dropped : keep p ≡ false). rw dropped (omega (arith, length-written p ps, filter_within keep ps)))
    (cases_Bool (keep p))

-- the properties that a record keeps are no longer than the text
pub kept_within : (text : List ℕ) → length (written (kept_props text)) ≤ length text + 1
kept_within text =
    let drop = λ (name : List ℕ) (p : List ℕ × List ℕ). not (bytes_eq name p.0) in
    let a = without (codes "TRANSACTION_CHECK_TIMES") (read_props text) in
    let b = without (codes "TRAN_PREPARED_QUEUE_OFFSET") a in
    let c = without (codes "DELAY_FROM") b in
    let d = without (codes "REAL_QID") c in
    let e = without (codes "REAL_TOPIC") d in
    omega (
      arith,
      filter_within (drop (codes "SEAL")) e,
      filter_within (drop (codes "REAL_TOPIC")) d,
      filter_within (drop (codes "REAL_QID")) c,
      filter_within (drop (codes "DELAY_FROM")) b,
      filter_within (drop (codes "TRAN_PREPARED_QUEUE_OFFSET")) a,
      filter_within (drop (codes "TRANSACTION_CHECK_TIMES")) (read_props text),
      read_within text,
    )

has_none : (name : List ℕ) (ps : List (List ℕ × List ℕ)) → has_name name (without name ps) ≡ false
has_none name [] = refl
has_none name (p ∷ ps) = ⊎_elim
    (λ (here : bytes_eq name p.0 ≡ true). rw here (has_none name ps))
    (λ (other : bytes_eq name p.0 ≡ false). rw (other, other) (has_none name ps))
    (cases_Bool (bytes_eq name p.0))

-- what has no value has none where other names are dropped
stays_none : (name : List ℕ) (keep : List ℕ × List ℕ → Bool) (ps : List (List ℕ × List ℕ)) → value_of name ps ≡ None → value_of name (filter keep ps) ≡ None
stays_none name keep [] none = refl
stays_none name keep (p ∷ ps) none = ⊎_elim
    (λ (here : bytes_eq name p.0 ≡ true). let some : value_of name (p ∷ ps) ≡ Some p.1 = rw here refl in cc (sym some ∙ none))
    (λ (other : bytes_eq name p.0 ≡ false).
    let rest_none : value_of name ps ≡ None = let same : value_of name (p ∷ ps) ≡ value_of name ps = rw other refl in sym same ∙ none in
    ⊎_elim
    (λ (kept : keep p ≡ true). rw (kept, other) (stays_none name keep ps rest_none))
    (λ (dropped : keep p ≡ false). rw dropped (stays_none name keep ps rest_none))
    (cases_Bool (keep p)))
    (cases_Bool (bytes_eq name p.0))

-- without the bits of a transaction, and the other bits as they were
pub hosts_stay : (flag : ℕ) → are_hosts_short flag ≡ true → are_hosts_short (plain_flag flag) ≡ true
hosts_stay flag short =
    let none : bit_and flag 48 ≡ 0 = eqb-true (bit_and flag 48) 0 short in
    eq-eqb (bit_and (plain_flag flag) 48) 0 (and_assoc 48 flag 0xFFFF_FFF3 ∙ none)

pub writable : (segment : ℕ) (known : Option ℕ) (store_host born_host : List ℕ) (send : SendSaid) → IsTaken segment known send → queue_named send.queue < 1024 → send.born < 2 ^ 62
    → IsPlainDraft segment (plain_draft store_host born_host send)
unfolding draft_fault
writable segment known store_host born_host send fine queue born =
    let legal = and_parts _ _ fine.topic in
    let short : length send.topic < 128 = ltb-true _ _ legal.1 in
    let within = kept_within send.props in
    let most = fine.props in
    let all = fine.fits in
    let drop = λ (name : List ℕ) (p : List ℕ × List ℕ). not (bytes_eq name p.0) in
    let a = without (codes "TRANSACTION_CHECK_TIMES") (read_props send.props) in
    let b = without (codes "TRAN_PREPARED_QUEUE_OFFSET") a in
    let c = without (codes "DELAY_FROM") b in
    let d = without (codes "REAL_QID") c in
    let e = without (codes "REAL_TOPIC") d in
    let named : not (is_named send.topic) ≡ false = ap not legal.0 in
    let topic = le-ltb 127 (length send.topic) (omega (arith, short)) in
    let hosts : not (are_hosts_short (plain_flag (flag_of send))) ≡ false = ap not (hosts_stay (flag_of send) fine.hosts) in
    let body = le-ltb 4194304 (length send.body) fine.body in
    let props = le-ltb 32767 (length (written (kept_props send.props)) + 14) (omega (arith, within, most)) in
    let fits = le-ltb segment (draft_size (plain_draft store_host born_host send) + 8) (omega (arith, within, short, all)) in
    record {
      passes = rw (named, topic, hosts, body, props, fits) refl;
      born = born;
      prepared = omega arith;
      unsealed = has_none (codes "SEAL") e;
      queue = queue;
      bits = no_bits (flag_of send);
      topic = fine.own;
      delivery = stays_none (codes "DELAY_FROM") (drop (codes "SEAL")) e (stays_none (codes "DELAY_FROM") (drop (codes "REAL_TOPIC")) d (stays_none (codes "DELAY_FROM") (drop (codes "REAL_QID")) c (value_of-dropped (codes "DELAY_FROM") b)));
      renewal =
          let name = codes "TRAN_PREPARED_QUEUE_OFFSET" in
          stays_none name (drop (codes "SEAL")) e (stays_none name (drop (codes "REAL_TOPIC")) d (stays_none name (drop (codes "REAL_QID")) c (stays_none name (drop (codes "DELAY_FROM")) b (value_of-dropped name a))));
    }
