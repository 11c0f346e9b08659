-- The fields of check-backs, and the records that go with them.
use Rattle.std.proofs.Common.{◌≡◌, ◌∙◌, ℕ, ℤ, pos, ◌+◌, ◌^◌, ◌<◌, ◌≤◌, ◌++◌, List, [], ◌∷◌, codes, length, refl, ap, sym, arith, append_assoc, length-append, Bool, true, false, cond, Option, Some}
use Rattle.std.proofs.lemmas.Fmt.{length-decimal-le}
use Rattle.std.specs.List.Sorted.{IsStrictlySortedBy}
use Rattle.std.specs.Int.{w64, to_be_bytes}
use Rattle.std.specs.Str.{bytes_eq}
use Rattle.std.specs.Str.Parse.{digits_value}
use Rattle.mq_bytes.specs.Decimal.{digits_of, decimal_value}
use Rattle.mq_bytes.specs.Ids.{message_id_of}
use Rattle.mq_bytes.proofs.DecimalLaws.{decimal_value-decimal}
use Rattle.mq_bytes.proofs.HexLemmas.{length-hex_of}
use Rattle.record_codec.specs.Drafts.{entry_of, draft_size}
use Rattle.record_codec.specs.Layout.{layout}
use Rattle.record_codec.specs.Props.{written, pair_text, value_of}
use Rattle.record_codec.specs.declared.draft.Draft.{Draft}
use Rattle.record_codec.specs.declared.draft.Record.{Record}
use Rattle.record_codec.proofs.DraftLemmas.{HasNoFault-from}
use Rattle.record_codec.proofs.LayoutLengths.{length-layout}
use Rattle.remoting_frame.specs.Head.{Head, IsInOrder, pairs_size}
use Rattle.remoting_frame.specs.Headers.{front_bytes}
use Rattle.remoting_frame.specs.declared.frame.Form.TheVariants.{Json}
use Rattle.reply_fields.specs.Asks.{text_or, real_draft, ask_fields, ask_head, ask_bytes, IsAsked}

pub ask_in_order : (r : Record) → IsInOrder (ask_fields r)
unfolding IsStrictlySortedBy
ask_in_order r = ((refl, (refl, (refl, (refl, tt)))), ((refl, (refl, (refl, tt))), ((refl, (refl, tt)), ((refl, tt), (tt, tt)))))

-- digits without a leading zero are read as their number
pub number_read : (text : List ℕ) → text ≡ digits_of (digits_value 10 text) → digits_value 10 text < 1024 → decimal_value text ≡ Some (pos (digits_value 10 text))
number_read text plain low = ap decimal_value plain ∙ decimal_value-decimal (pos (digits_value 10 text)) (omega (arith, low))

-- ---- lengths

one_of : (b : Bool) (text other : List ℕ) (o : Option (List ℕ)) (m n : ℕ) → length text ≤ m → length (text_or other o) ≤ length other + n → length (text_or other (cond b (Some text) o)) ≤ length other + (m + n)
one_of true text other o m n short rest = omega (arith, short)
one_of false text other o m n short rest = omega (arith, rest)

length-pair : (p : List ℕ × List ℕ) → length p.1 ≤ length (pair_text p)
length-pair p = omega (arith, length-append p.0 (1 ∷ (p.1 ++ 2 ∷ [])), length-append p.1 (2 ∷ []))

-- a value is no longer than all properties
length-value : (name other : List ℕ) (props : List (List ℕ × List ℕ)) → length (text_or other (value_of name props)) ≤ length other + length (written props)
length-value name other [] = omega arith
length-value name other (p ∷ props) =
    omega (arith, one_of (bytes_eq name p.0) p.1 other (value_of name props) (length (pair_text p)) (length (written props)) (length-pair p) (length-value name other props), length-append (pair_text p) (written props))

pub length-id : (host : List ℕ) (place : ℕ) → length host ≡ 8 → length (message_id_of host place) ≡ 32
unfolding message_id_of
length-id host place eight = omega (arith, eight, length-hex_of (host ++ to_be_bytes w64 place), length-append host (to_be_bytes w64 place))

length-digits : (n : ℕ) → n < 2 ^ 62 → length (digits_of n) ≤ 20
length-digits n low = length-decimal-le 20 n (omega arith) (omega (arith, low)) (omega (arith, low))

length-fields : (r : Record) → IsAsked r → length r.draft.store_host ≡ 8 → pairs_size (ask_fields r) ≤ 66000
length-fields r asked eight =
    let place = r.place in
    let props = r.draft.props in
    let id = length-id r.draft.store_host place.offset eight in
    let fault = HasNoFault-from (2 ^ 30) (real_draft r.draft) asked.encodable.passes in
    let sender = length-value (codes "UNIQ_KEY") (message_id_of r.draft.store_host place.offset) props in
    let transaction = length-value (codes "UNIQ_KEY") [] props in
    omega (arith, id, fault.props, sender, transaction, length-digits place.offset asked.encodable.offset, length-digits place.queue_offset asked.encodable.queue_offset)

-- a header that is a check-back's is short
pub short_ask : (r : Record) (remark : List ℕ) (ext : List (List ℕ × List ℕ)) → remark ≡ [] → ext ≡ ask_fields r → IsAsked r → length r.draft.store_host ≡ 8 → length remark + pairs_size ext ≤ 131072
short_ask r remark ext none fields asked eight = omega (arith, ap length none, ap pairs_size fields, length-fields r asked eight)

-- a front, and behind it the record of the message, is the frame of the check-back
pub appends-ask : (r : Record) (opaque : ℤ) (head : Head) (message : Draft) (size : ℕ) (old front new : List ℕ) → head ≡ ask_head r opaque → message ≡ real_draft r.draft → size ≡ draft_size message
    → front ≡ old ++ front_bytes Json head size → new ≡ front ++ layout (entry_of message r.place) → new ≡ old ++ ask_bytes opaque r
appends-ask r opaque head message size old front new asks says sized begun added =
    let body : List ℕ = layout (entry_of (real_draft r.draft) r.place) in
    let len : size ≡ length body = sized ∙ ap draft_size says ∙ sym (length-layout (entry_of (real_draft r.draft) r.place)) in
    let began : front ≡ old ++ front_bytes Json (ask_head r opaque) (length body) = rw (← asks, ← len) begun in
    added ∙ ap (λ (d : Draft). front ++ layout (entry_of d r.place)) says ∙ ap (λ (l : List ℕ). l ++ body) began ∙ append_assoc old (front_bytes Json (ask_head r opaque) (length body)) body
