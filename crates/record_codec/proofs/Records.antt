-- What is read is a record's layout, and a layout is read as its record.
use Rattle.std.proofs.Common.{◌≡◌, lit<, ℕ, suc, ◌+◌, ◌-◌, ◌^◌, ◌<◌, ◌≤◌, ◌++◌, List, [], ◌∷◌, length, get_or, take, drop, Bool, true, false, ◌&&◌, ◌||◌, eqb, ltb, codes, not, Some, refl, sym, ap, subst, ◌∙◌, append_assoc, arith, length-append, length-drop, drop-cons, eq-eqb}
use Rattle.std.specs.Int.{w16, w32, w64, from_be_bytes, to_be_bytes, cast_signed, cast_unsigned}
use Rattle.std.specs.Str.{bytes_eq, is_utf8}
use Rattle.std.proofs.lemmas.Bool.{and_parts, and_from, eqb-true, ltb-false, le-ltb, ltb-true, not-true}
use Rattle.std.proofs.lemmas.List.{take_at, drop_at, append-nil, nil_from_length, length-take, take-append-drop, drop-drop}
use Rattle.std.proofs.lemmas.Int.{of_z-to_z}
use Rattle.std.proofs.lemmas.Slice.Eq.{bytes_eq-Decides}
use Rattle.std.proofs.lemmas.Nat.{be_bytes_2, be_bytes_8, from_be_bytes-to_be_bytes_2}
use Rattle.std.proofs.Math.Seq.{get_or-append_seam}
use Rattle.std.proofs.Math.Facts.{sfits_to_z, Fits-of_z, to_z-of_z}
use Rattle.mq_bytes.specs.Crc.{crc_of}
use Rattle.record_codec.specs.Entry.{Entry}
use Rattle.record_codec.specs.Props.{written, are_pairs, has_name, are_distinct, pairs_in}
use Rattle.mq_bytes.specs.Bytes.{AreBytes}
use Rattle.record_codec.specs.Layout.{magic, body_crc, numbers_text, fixed, digits, seal_name, unsealed, size, numbers, front, sealed, layout, is_legal, are_hosts_short, are_low, is_entry, IsRecord}
use Rattle.record_codec.specs.Parsed.{◌>>=◌, n16, n32, n64, Lengths, end_of, lengths_past_topic, lengths_past_body, lengths_past_size, lengths_in, entry_in, is_spelled, entry_at, parsed}
use Rattle.record_codec.proofs.LayoutLengths.{length-digits}
use Rattle.record_codec.proofs.NumberTexts.{AreBytes-drop, AreBytes-take, AreWide, none, more, four, eight, Fit, numbers_from, numbers_text-read, numbers_from-text}
use Rattle.record_codec.proofs.PairTexts.{some_is, past_test, past_fault, bind_some, pairs_again, pairs_take}

-- ---- the lengths

pub record LengthsFacts (b : List ℕ) (l : Lengths) : Type 0 where
  pub size : n32 b 0 ≡ end_of l
  pub within : end_of l ≤ length b
  pub body : n32 b 84 ≡ l.body
  pub topic : get_or b (88 + l.body) 0 ≡ l.topic
  pub props : n16 b (89 + l.body + l.topic) ≡ l.props + 14

or_false : (p q : Bool) → (p || q) ≡ false → (p ≡ false) × (q ≡ false)
or_false true q h = absurd cc
or_false false q h = (refl, h)

past_topic : (b : List ℕ) (size body topic : ℕ) (l : Lengths) → lengths_past_topic b size body topic ≡ Some l
    → (91 + body + topic + n16 b (89 + body + topic) ≡ size) × (l ≡ record { body = body; topic = topic; props = size - (105 + body + topic) })
unfolding lengths_past_topic
past_topic b size body topic l h =
    let p = past_test (eqb (91 + body + topic + n16 b (89 + body + topic)) size) (record { body = body; topic = topic; props = size - (105 + body + topic) }) l h in
    (eqb-true _ _ p.0, sym p.1)

past_body : (b : List ℕ) (size body : ℕ) (l : Lengths) → lengths_past_body b size body ≡ Some l
    → (get_or b (88 + body) 0 ≤ size - 105 - body) × (lengths_past_topic b size body (get_or b (88 + body) 0) ≡ Some l)
unfolding lengths_past_body
past_body b size body l h = let p = past_fault (ltb (size - 105 - body) (get_or b (88 + body) 0)) _ l h in (ltb-false _ _ p.0, p.1)

past_size : (b : List ℕ) (size : ℕ) (l : Lengths) → lengths_past_size b size ≡ Some l
    → (105 ≤ size) × (size ≤ length b) × (n32 b 84 ≤ size - 105) × (lengths_past_body b size (n32 b 84) ≡ Some l)
unfolding lengths_past_size
past_size b size l h =
    let p = past_fault (ltb size 105 || ltb (length b) size) _ l h in
    let o = or_false (ltb size 105) (ltb (length b) size) p.0 in
    let q = past_fault (ltb (size - 105) (n32 b 84)) _ l p.1 in
    (ltb-false _ _ o.0, ltb-false _ _ o.1, ltb-false _ _ q.0, q.1)

pub lengths_facts : (b : List ℕ) (l : Lengths) → lengths_in b ≡ Some l → LengthsFacts b l
unfolding lengths_in
lengths_facts b l h =
    let a = past_fault (ltb (length b) 4) _ l h in
    let s = past_size b (n32 b 0) l a.1 in
    let o = past_body b (n32 b 0) (n32 b 84) l s.3 in
    let t = past_topic b (n32 b 0) (n32 b 84) (get_or b (88 + n32 b 84) 0) l o.1 in
    let whole : LengthsFacts b (record { body = n32 b 84; topic = get_or b (88 + n32 b 84) 0; props = n32 b 0 - (105 + n32 b 84 + get_or b (88 + n32 b 84) 0) }) =
    record { size = omega (arith, s, o, t); within = omega (arith, s, o, t); body = refl; topic = refl; props = omega (arith, s, o, t) } in
    subst (LengthsFacts b) (sym t.1) whole

-- ---- what is read is a layout

seam : (n m k : ℕ) (b : List ℕ) → k ≡ n + m → drop n b ≡ take m (drop n b) ++ drop k b
seam n m k b e = sym (take-append-drop m (drop n b)) ∙ ap (λ (w : List ℕ). take m (drop n b) ++ w) (drop-drop m n b ∙ ap (λ (j : ℕ). drop j b) (sym e))

below32 : (b : List ℕ) → AreBytes b → from_be_bytes w32 b < 2 ^ 32
below32 b fits = omega (arith, fits 0, fits 1, fits 2, fits 3)

below16 : (b : List ℕ) → AreBytes b → from_be_bytes w16 b < 2 ^ 16
below16 b fits = omega (arith, fits 0, fits 1)

n32_below : (b : List ℕ) (at : ℕ) → AreBytes b → n32 b at < 2 ^ 32
n32_below b at fits = below32 (take 4 (drop at b)) (AreBytes-take 4 (drop at b) (AreBytes-drop at b fits))

wide : AreWide fixed
wide = more four (more four (more four (more four (more four (more eight (more eight (more four (more eight (more eight (more eight (more eight (more four (more eight (more four none))))))))))))))

record Spelled (b : List ℕ) (l : Lengths) : Type 0 where
  magic : n32 b 4 ≡ magic
  crc : n32 b 8 ≡ body_crc (take l.body (drop 88 b))
  name : take 5 (drop (91 + l.body + l.topic + l.props) b) ≡ seal_name
  seal : take 9 (drop (96 + l.body + l.topic + l.props) b) ≡ digits (crc_of (take (96 + l.body + l.topic + l.props) b ++ unsealed)) ++ 2 ∷ []

spelled_facts : (b : List ℕ) (l : Lengths) → is_spelled b l ≡ true → Spelled b l
unfolding is_spelled
spelled_facts b l h =
    let d = and_parts _ (bytes_eq (take 9 (drop (96 + l.body + l.topic + l.props) b)) (digits (crc_of (take (96 + l.body + l.topic + l.props) b ++ unsealed)) ++ 2 ∷ [])) h in
    let c = and_parts _ (bytes_eq (take 5 (drop (91 + l.body + l.topic + l.props) b)) seal_name) d.0 in
    let a = and_parts (eqb (n32 b 4) magic) (eqb (n32 b 8) (body_crc (take l.body (drop 88 b)))) c.0 in
    record { magic = eqb-true _ _ a.0; crc = eqb-true _ _ a.1; name = (bytes_eq-Decides _ _).0 c.1; seal = (bytes_eq-Decides _ _).0 d.1 }

numbers_are : (b : List ℕ) (l : Lengths) (ps : List (List ℕ × List ℕ)) → AreBytes b → LengthsFacts b l → Spelled b l → take l.props (drop (91 + l.body + l.topic) b) ≡ written ps
    → numbers_from 0 fixed b ≡ numbers (entry_in b l ps)
numbers_are b l ps fits f s w =
    let within = f.within in
    let body_len : length (take l.body (drop 88 b)) ≡ l.body = omega (arith, length-take l.body (drop 88 b), length-drop 88 b) in
    let topic_len : length (take l.topic (drop (89 + l.body) b)) ≡ l.topic = omega (arith, length-take l.topic (drop (89 + l.body) b), length-drop (89 + l.body) b) in
    let props_len : length (written ps) ≡ l.props = ap (λ (x : List ℕ). length x) (sym w) ∙ omega (arith, length-take l.props (drop (91 + l.body + l.topic) b), length-drop (91 + l.body + l.topic) b) in
    let e0 : n32 b 0 ≡ size (entry_in b l ps) = omega (arith, f.size, body_len, topic_len, props_len) in
    let e16 : cast_unsigned w32 (cast_signed w32 (n32 b 16)) ≡ n32 b 16 = of_z-to_z w32 (n32 b 16) (n32_below b 16 fits) in
    let e72 : cast_unsigned w32 (cast_signed w32 (n32 b 72)) ≡ n32 b 72 = of_z-to_z w32 (n32 b 72) (n32_below b 72 fits) in
    let e84 : n32 b 84 ≡ length (take l.body (drop 88 b)) = f.body ∙ sym body_len in
    rw (e0, s.magic, s.crc, e16, e72, e84) refl

numbers_head : (b : List ℕ) (l : Lengths) (ps : List (List ℕ × List ℕ)) → AreBytes b → LengthsFacts b l → Spelled b l → take l.props (drop (91 + l.body + l.topic) b) ≡ written ps → n32 b 0 ≡ size (entry_in b l ps)
numbers_head b l ps fits f s w = ap (λ (x : List ℕ). get_or x 0 0) (numbers_are b l ps fits f s w)

-- parts that follow one another
joined : (b n b1 body b2 : List ℕ) (t : ℕ) (b3 topic b4 plen b5 props b6 name b7 : List ℕ) (n' : List ℕ) (t' : ℕ) (plen' props' name' : List ℕ)
    → b ≡ n ++ b1 → b1 ≡ body ++ b2 → b2 ≡ t ∷ b3 → b3 ≡ topic ++ b4 → b4 ≡ plen ++ b5 → b5 ≡ props ++ b6 → b6 ≡ name ++ b7
    → n' ≡ n → t ≡ t' → plen' ≡ plen → props ≡ props' → name ≡ name'
    → b ≡ (n' ++ (body ++ (t' ∷ (topic ++ (plen' ++ (props' ++ name')))))) ++ b7
joined b n b1 body b2 t b3 topic b4 plen b5 props b6 name b7 n' t' plen' props' name' p0 p1 p2 p3 p4 p5 p6 e0 e1 e2 e3 e4 =
    rw (p0, p1, p2, p3, p4, p5, p6, e0, e1, e2, e3, e4) (simp append_assoc)

-- the whole, part by part
front_is : (b : List ℕ) (l : Lengths) (ps : List (List ℕ × List ℕ)) → AreBytes b → LengthsFacts b l → Spelled b l → take l.props (drop (91 + l.body + l.topic) b) ≡ written ps
    → b ≡ front (entry_in b l ps) ++ drop (96 + l.body + l.topic + l.props) b
unfolding front
front_is b l ps fits f s w =
    let within = f.within in
    let B = l.body in
    let T = l.topic in
    let P = l.props in
    let body_len : length (take B (drop 88 b)) ≡ B = omega (arith, length-take B (drop 88 b), length-drop 88 b) in
    let topic_len : length (take T (drop (89 + B) b)) ≡ T = omega (arith, length-take T (drop (89 + B) b), length-drop (89 + B) b) in
    let props_len : length (written ps) ≡ P = ap (λ (x : List ℕ). length x) (sym w) ∙ omega (arith, length-take P (drop (91 + B + T) b), length-drop (91 + B + T) b) in
    let nums : numbers_text fixed (numbers (entry_in b l ps)) ≡ take 88 b =
    ap (numbers_text fixed) (sym (numbers_are b l ps fits f s w)) ∙ numbers_text-read 0 fixed b wide (omega (arith, within)) fits in
    let plen : to_be_bytes w16 (length (written ps) + 14) ≡ take 2 (drop (89 + B + T) b) =
    be_bytes_2 (take 2 (drop (89 + B + T) b)) _ (omega (arith, length-take 2 (drop (89 + B + T) b), length-drop (89 + B + T) b)) (AreBytes-take 2 (drop (89 + B + T) b) (AreBytes-drop (89 + B + T) b fits)) (omega (arith, f.props, props_len)) in
    let tlen : get_or b (88 + B) 0 ≡ length (take T (drop (89 + B) b)) = f.topic ∙ sym topic_len in
    let p0 : b ≡ take 88 b ++ drop 88 b = sym (take-append-drop 88 b) in
    let p1 : drop 88 b ≡ take B (drop 88 b) ++ drop (88 + B) b = seam 88 B (88 + B) b refl in
    let k2 : suc (88 + B) ≡ 89 + B = omega arith in
    let p2 : drop (88 + B) b ≡ get_or b (88 + B) 0 ∷ drop (89 + B) b = drop-cons b (88 + B) 0 (omega (arith, within)) ∙ ap (λ (j : ℕ). get_or b (88 + B) 0 ∷ drop j b) k2 in
    let p3 : drop (89 + B) b ≡ take T (drop (89 + B) b) ++ drop (89 + B + T) b = seam (89 + B) T (89 + B + T) b refl in
    let p4 : drop (89 + B + T) b ≡ take 2 (drop (89 + B + T) b) ++ drop (91 + B + T) b = seam (89 + B + T) 2 (91 + B + T) b (omega arith) in
    let p5 : drop (91 + B + T) b ≡ take P (drop (91 + B + T) b) ++ drop (91 + B + T + P) b = seam (91 + B + T) P (91 + B + T + P) b refl in
    let p6 : drop (91 + B + T + P) b ≡ take 5 (drop (91 + B + T + P) b) ++ drop (96 + B + T + P) b = seam (91 + B + T + P) 5 (96 + B + T + P) b (omega arith) in
    joined b (take 88 b) (drop 88 b) (take B (drop 88 b)) (drop (88 + B) b) (get_or b (88 + B) 0) (drop (89 + B) b) (take T (drop (89 + B) b)) (drop (89 + B + T) b) (take 2 (drop (89 + B + T) b))
    (drop (91 + B + T) b) (take P (drop (91 + B + T) b)) (drop (91 + B + T + P) b) (take 5 (drop (91 + B + T + P) b)) (drop (96 + B + T + P) b)
    (numbers_text fixed (numbers (entry_in b l ps))) (length (take T (drop (89 + B) b))) (to_be_bytes w16 (length (written ps) + 14)) (written ps) seal_name
    p0 p1 p2 p3 p4 p5 p6 nums tlen plen w s.name

pub entry_facts : (b : List ℕ) (l : Lengths) (ps : List (List ℕ × List ℕ)) (r : Entry) → entry_at b l ps ≡ Some r → (is_entry (entry_in b l ps) ≡ true) × (is_spelled b l ≡ true) × (entry_in b l ps ≡ r)
unfolding entry_at
entry_facts b l ps r h =
    let p = past_test (is_entry (entry_in b l ps) && is_spelled b l) (entry_in b l ps) r h in
    let q = and_parts (is_entry (entry_in b l ps)) (is_spelled b l) p.0 in
    (q.0, q.1, p.1)

record_of : (b : List ℕ) (l : Lengths) (ps : List (List ℕ × List ℕ)) → AreBytes b → LengthsFacts b l → take l.props (drop (91 + l.body + l.topic) b) ≡ written ps → is_entry (entry_in b l ps) ≡ true → IsRecord (entry_in b l ps)
record_of b l ps fits f w e =
    let within = f.within in
    let body_len : length (take l.body (drop 88 b)) ≡ l.body = omega (arith, length-take l.body (drop 88 b), length-drop 88 b) in
    let topic_len : length (take l.topic (drop (89 + l.body) b)) ≡ l.topic = omega (arith, length-take l.topic (drop (89 + l.body) b), length-drop (89 + l.body) b) in
    let props_len : length (written ps) ≡ l.props = ap (λ (x : List ℕ). length x) (sym w) ∙ omega (arith, length-take l.props (drop (91 + l.body + l.topic) b), length-drop (91 + l.body + l.topic) b) in
    let plen = below16 (take 2 (drop (89 + l.body + l.topic) b)) (AreBytes-take 2 (drop (89 + l.body + l.topic) b) (AreBytes-drop (89 + l.body + l.topic) b fits)) in
    record {
      entry = e;
      queue = n32_below b 12 fits;
      flag = sfits_to_z {w = w32} {n = n32 b 16} (record { fits = n32_below b 16 fits });
      sysflag = n32_below b 36 fits;
      reconsume = sfits_to_z {w = w32} {n = n32 b 72} (record { fits = n32_below b 72 fits });
      born_host = (omega (arith, length-take 8 (drop 48 b), length-drop 48 b, within), AreBytes-take 8 (drop 48 b) (AreBytes-drop 48 b fits));
      store_host = (omega (arith, length-take 8 (drop 64 b), length-drop 64 b, within), AreBytes-take 8 (drop 64 b) (AreBytes-drop 64 b fits));
      body = AreBytes-take l.body (drop 88 b) (AreBytes-drop 88 b fits);
      props = omega (arith, plen, f.props, props_len);
      size = omega (arith, n32_below b 0 fits, f.size, body_len, topic_len, props_len);
    }

sealed_is : (b before : List ℕ) (n : ℕ) → b ≡ before ++ drop n b → n + 9 ≤ length b → take 9 (drop n b) ≡ digits (crc_of (take n b ++ unsealed)) ++ 2 ∷ [] → b ≡ sealed before ++ drop (n + 9) b
unfolding sealed
sealed_is b before n e le seal =
    let long = length-append before (drop n b) in
    let len : length before ≡ n = omega (arith, ap (λ (x : List ℕ). length x) e, long, length-drop n b) in
    let front : take n b ≡ before = ap (take n) e ∙ take_at before (drop n b) n len in
    let tail : drop n b ≡ (digits (crc_of (before ++ unsealed)) ++ 2 ∷ []) ++ drop (n + 9) b =
    seam n 9 (n + 9) b refl ∙ ap (λ (w : List ℕ). w ++ drop (n + 9) b) (seal ∙ ap (λ (w : List ℕ). digits (crc_of (w ++ unsealed)) ++ 2 ∷ []) front) in
    e ∙ ap (λ (w : List ℕ). before ++ w) tail ∙ sym (append_assoc before (digits (crc_of (before ++ unsealed)) ++ 2 ∷ []) (drop (n + 9) b))

-- what is read is a record, whose layout stands in front
pub parsed_takes : (b : List ℕ) (r : Entry) → AreBytes b → parsed b ≡ Some r → IsRecord r × (b ≡ layout r ++ drop (size r) b)
unfolding parsed
parsed_takes b r fits h =
    let lengths = bind_some (lengths_in b) (λ l. pairs_in l.props (take l.props (drop (91 + l.body + l.topic) b)) >>= λ ps. entry_at b l ps) r h in
    let l = lengths.0 in
    let pairs = bind_some (pairs_in l.props (take l.props (drop (91 + l.body + l.topic) b))) (λ ps. entry_at b l ps) r lengths.2 in
    let ps = pairs.0 in
    let f = lengths_facts b l lengths.1 in
    let w = pairs_take l.props (take l.props (drop (91 + l.body + l.topic) b)) ps pairs.1 in
    let e = entry_facts b l ps r pairs.2 in
    let s = spelled_facts b l e.1 in
    let made = record_of b l ps fits f w.0 e.0 in
    let n = 96 + l.body + l.topic + l.props in
    let whole = sealed_is b (front (entry_in b l ps)) n (front_is b l ps fits f s w.0) (omega (arith, f.within)) s.seal in
    let total : n + 9 ≡ size (entry_in b l ps) = omega (arith, f.size, numbers_head b l ps fits f s w.0) in
    subst (λ (x : Entry). IsRecord x × (b ≡ layout x ++ drop (size x) b)) e.2 (made, subst (λ (k : ℕ). b ≡ layout (entry_in b l ps) ++ drop k b) total whole)

-- ---- a layout is read

lengths_1 : (b : List ℕ) → 4 ≤ length b → lengths_in b ≡ lengths_past_size b (n32 b 0)
unfolding lengths_in
lengths_1 b le = let t : ltb (length b) 4 ≡ false = le-ltb _ _ le in rw t refl

lengths_2 : (b : List ℕ) (size : ℕ) → 105 ≤ size → size ≤ length b → n32 b 84 ≤ size - 105 → lengths_past_size b size ≡ lengths_past_body b size (n32 b 84)
unfolding lengths_past_size
lengths_2 b size le within body =
    let t : ltb size 105 ≡ false = le-ltb _ _ le in
    let u : ltb (length b) size ≡ false = le-ltb _ _ within in
    let v : ltb (size - 105) (n32 b 84) ≡ false = le-ltb _ _ body in
    rw (t, u, v) refl

lengths_3 : (b : List ℕ) (size body : ℕ) → get_or b (88 + body) 0 ≤ size - 105 - body → lengths_past_body b size body ≡ lengths_past_topic b size body (get_or b (88 + body) 0)
unfolding lengths_past_body
lengths_3 b size body le = let t : ltb (size - 105 - body) (get_or b (88 + body) 0) ≡ false = le-ltb _ _ le in rw t refl

lengths_4 : (b : List ℕ) (size body topic : ℕ) → 91 + body + topic + n16 b (89 + body + topic) ≡ size → lengths_past_topic b size body topic ≡ Some (record { body = body; topic = topic; props = size - (105 + body + topic) })
unfolding lengths_past_topic
lengths_4 b size body topic e = let t : eqb (91 + body + topic + n16 b (89 + body + topic)) size ≡ true = eq-eqb _ _ e in rw t refl

part : (pre mid post : List ℕ) (n m : ℕ) → length pre ≡ n → length mid ≡ m → take m (drop n (pre ++ (mid ++ post))) ≡ mid
part pre mid post n m p q = rw (drop_at pre (mid ++ post) n p, take_at mid post m q) refl

-- the parts of a layout, at their places
record Places (b body : List ℕ) (t : ℕ) (topic pl W name D before : List ℕ) : Type 0 where
  body_at : take (length body) (drop 88 b) ≡ body
  tlen_at : get_or b (88 + length body) 0 ≡ t
  topic_at : take (length topic) (drop (89 + length body) b) ≡ topic
  plen_at : take 2 (drop (89 + length body + length topic) b) ≡ pl
  props_at : take (length W) (drop (91 + length body + length topic) b) ≡ W
  name_at : take 5 (drop (91 + length body + length topic + length W) b) ≡ name
  before_at : take (96 + length body + length topic + length W) b ≡ before
  seal_at : take 9 (drop (96 + length body + length topic + length W) b) ≡ D ++ 2 ∷ []
  within_at : 105 + length body + length topic + length W ≤ length b

get_head : (pre : List ℕ) (x : ℕ) (post : List ℕ) (n : ℕ) → length pre ≡ n → get_or (pre ++ x ∷ post) n 0 ≡ x
get_head pre x post n e = rw (← e) (get_or-append_seam pre x post 0)

part_at : (b pre mid post : List ℕ) (n m : ℕ) → b ≡ pre ++ (mid ++ post) → length pre ≡ n → length mid ≡ m → take m (drop n b) ≡ mid
part_at b pre mid post n m e p q = ap (λ (w : List ℕ). take m (drop n w)) e ∙ part pre mid post n m p q

-- the front, and what follows it
abbrev in_front : List ℕ → List ℕ → ℕ → List ℕ → List ℕ → List ℕ → List ℕ → List ℕ
in_front F body t topic pl W name = F ++ (body ++ (t ∷ (topic ++ (pl ++ (W ++ name)))))

places : (F body : List ℕ) (t : ℕ) (topic pl W name D rest : List ℕ) → length F ≡ 88 → length pl ≡ 2 → length name ≡ 5 → length D ≡ 8
    → Places ((in_front F body t topic pl W name ++ (D ++ 2 ∷ [])) ++ rest) body t topic pl W name D (in_front F body t topic pl W name)
places F body t topic pl W name D rest f p n d =
    let b = (in_front F body t topic pl W name ++ (D ++ 2 ∷ [])) ++ rest in
    let end = D ++ 2 ∷ rest in
    let r1 : b ≡ F ++ (body ++ (t ∷ (topic ++ (pl ++ (W ++ (name ++ end)))))) = simp append_assoc in
    let r2 : b ≡ (F ++ body) ++ t ∷ (topic ++ (pl ++ (W ++ (name ++ end)))) = simp append_assoc in
    let r3 : b ≡ (F ++ (body ++ t ∷ [])) ++ (topic ++ (pl ++ (W ++ (name ++ end)))) = simp append_assoc in
    let r4 : b ≡ (F ++ (body ++ (t ∷ topic))) ++ (pl ++ (W ++ (name ++ end))) = simp append_assoc in
    let r5 : b ≡ (F ++ (body ++ (t ∷ (topic ++ pl)))) ++ (W ++ (name ++ end)) = simp append_assoc in
    let r6 : b ≡ (F ++ (body ++ (t ∷ (topic ++ (pl ++ W))))) ++ (name ++ end) = simp append_assoc in
    let r7 : b ≡ in_front F body t topic pl W name ++ ((D ++ 2 ∷ []) ++ rest) = append_assoc (in_front F body t topic pl W name) (D ++ 2 ∷ []) rest in
    let l2 : length (F ++ body) ≡ 88 + length body = simp length-append (omega arith) in
    let l3 : length (F ++ (body ++ t ∷ [])) ≡ 89 + length body = simp length-append (omega arith) in
    let l4 : length (F ++ (body ++ (t ∷ topic))) ≡ 89 + length body + length topic = simp length-append (omega arith) in
    let l5 : length (F ++ (body ++ (t ∷ (topic ++ pl)))) ≡ 91 + length body + length topic = simp length-append (omega arith) in
    let l6 : length (F ++ (body ++ (t ∷ (topic ++ (pl ++ W))))) ≡ 91 + length body + length topic + length W = simp length-append (omega arith) in
    let l7 : length (in_front F body t topic pl W name) ≡ 96 + length body + length topic + length W = simp length-append (omega arith) in
    let l8 : length (D ++ 2 ∷ []) ≡ 9 = simp length-append (omega arith) in
    record {
      body_at = part_at b F body _ 88 (length body) r1 f refl;
      tlen_at = ap (λ (w : List ℕ). get_or w (88 + length body) 0) r2 ∙ get_head (F ++ body) t _ (88 + length body) l2;
      topic_at = part_at b (F ++ (body ++ t ∷ [])) topic _ (89 + length body) (length topic) r3 l3 refl;
      plen_at = part_at b (F ++ (body ++ (t ∷ topic))) pl _ (89 + length body + length topic) 2 r4 l4 p;
      props_at = part_at b (F ++ (body ++ (t ∷ (topic ++ pl)))) W _ (91 + length body + length topic) (length W) r5 l5 refl;
      name_at = part_at b (F ++ (body ++ (t ∷ (topic ++ (pl ++ W))))) name _ (91 + length body + length topic + length W) 5 r6 l6 n;
      before_at = ap (take (96 + length body + length topic + length W)) r7 ∙ take_at (in_front F body t topic pl W name) _ (96 + length body + length topic + length W) l7;
      seal_at = part_at b (in_front F body t topic pl W name) (D ++ 2 ∷ []) rest (96 + length body + length topic + length W) 9 r7 l7 l8;
      within_at = omega (arith, ap (λ (w : List ℕ). length w) r7, length-append (in_front F body t topic pl W name) ((D ++ 2 ∷ []) ++ rest), length-append (D ++ 2 ∷ []) rest, l7, l8);
    }

pub record EntryFacts (r : Entry) : Type 0 where
  pub legal : is_legal r.topic ≡ true
  pub queue_offset : r.queue_offset < 2 ^ 62
  pub offset : r.offset < 2 ^ 62
  pub born : r.born < 2 ^ 62
  pub store : r.store < 2 ^ 62
  pub prepared : r.prepared < 2 ^ 62
  pub pairs : are_pairs r.props ≡ true
  pub distinct : are_distinct r.props ≡ true
  pub no_seal : has_name (codes "SEAL") r.props ≡ false
  pub utf8 : is_utf8 (written r.props) ≡ true

-- what the tests of a record say
pub said : (r : Entry) → is_entry r ≡ true → EntryFacts r
unfolding is_entry
said r h =
    let g = and_parts _ (is_utf8 (written r.props)) h in
    let f = and_parts _ (not (has_name (codes "SEAL") r.props)) g.0 in
    let e = and_parts _ (are_distinct r.props) f.0 in
    let d = and_parts _ (are_pairs r.props) e.0 in
    let c = and_parts _ (are_low (r.queue_offset ∷ r.offset ∷ r.born ∷ r.store ∷ r.prepared ∷ [])) d.0 in
    let a = and_parts (is_legal r.topic) (are_hosts_short r.sysflag) c.0 in
    let n1 = and_parts (ltb r.queue_offset (2 ^ 62)) _ c.1 in
    let n2 = and_parts (ltb r.offset (2 ^ 62)) _ n1.1 in
    let n3 = and_parts (ltb r.born (2 ^ 62)) _ n2.1 in
    let n4 = and_parts (ltb r.store (2 ^ 62)) _ n3.1 in
    let n5 = and_parts (ltb r.prepared (2 ^ 62)) _ n4.1 in
    record {
      legal = a.0;
      queue_offset = ltb-true _ _ n1.0;
      offset = ltb-true _ _ n2.0;
      born = ltb-true _ _ n3.0;
      store = ltb-true _ _ n4.0;
      prepared = ltb-true _ _ n5.0;
      pairs = d.1;
      distinct = e.1;
      no_seal = not-true _ f.1;
      utf8 = g.1;
    }

below64 : (b : List ℕ) → AreBytes b → from_be_bytes w64 b < 2 ^ 64
below64 b fits = omega (arith, fits 0, fits 1, fits 2, fits 3, fits 4, fits 5, fits 6, fits 7)

numbers_fit : (r : Entry) → IsRecord r → Fit fixed (numbers r)
numbers_fit r h =
    let s = said r h.entry in
    let flag = Fits-of_z {w = w32} {z = r.flag} h.flag in
    let reconsume = Fits-of_z {w = w32} {z = r.reconsume} h.reconsume in
    (h.size, (lit< tt, (omega arith, (h.queue, (flag.fits, (omega (arith, s.queue_offset), (omega (arith, s.offset), (h.sysflag, (omega (arith, s.born), (below64 r.born_host h.born_host.1, (omega (arith, s.store), (below64 r.store_host h.store_host.1, (reconsume.fits, (omega (arith, s.prepared), (omega (arith, h.size), tt)))))))))))))))

-- what a list of bytes holds in a record's places
record Holds (b : List ℕ) (r : Entry) : Type 0 where
  nums : numbers_from 0 fixed b ≡ numbers r
  born_host : take 8 (drop 48 b) ≡ r.born_host
  store_host : take 8 (drop 64 b) ≡ r.store_host
  places : Places b r.body (length r.topic) r.topic (to_be_bytes w16 (length (written r.props) + 14)) (written r.props) seal_name (digits (crc_of (front r ++ unsealed))) (front r)

host_48 : (r : Entry) (post : List ℕ) → take 8 (drop 48 (numbers_text fixed (numbers r) ++ post)) ≡ to_be_bytes w64 (from_be_bytes w64 r.born_host)
host_48 r post = refl

host_64 : (r : Entry) (post : List ℕ) → take 8 (drop 64 (numbers_text fixed (numbers r) ++ post)) ≡ to_be_bytes w64 (from_be_bytes w64 r.store_host)
host_64 r post = refl

front_first : (r : Entry) (rest : List ℕ) → (post : List ℕ) × (layout r ++ rest ≡ numbers_text fixed (numbers r) ++ post)
unfolding front sealed
front_first r rest =
    let D = digits (crc_of (front r ++ unsealed)) ++ 2 ∷ [] in
    let V = r.body ++ (length r.topic ∷ (r.topic ++ (to_be_bytes w16 (length (written r.props) + 14) ++ (written r.props ++ seal_name)))) in
    (V ++ (D ++ rest), append_assoc (front r) D rest ∙ append_assoc (numbers_text fixed (numbers r)) V (D ++ rest))

holds : (r : Entry) (rest : List ℕ) → IsRecord r → Holds (layout r ++ rest) r
unfolding front sealed
holds r rest h =
    let first = front_first r rest in
    record {
      nums = ap (numbers_from 0 fixed) first.1 ∙ numbers_from-text [] 0 fixed (numbers r) first.0 refl wide (numbers_fit r h);
      born_host = ap (λ (w : List ℕ). take 8 (drop 48 w)) first.1 ∙ host_48 r first.0 ∙ be_bytes_8 r.born_host _ h.born_host.0 h.born_host.1 refl;
      store_host = ap (λ (w : List ℕ). take 8 (drop 64 w)) first.1 ∙ host_64 r first.0 ∙ be_bytes_8 r.store_host _ h.store_host.0 h.store_host.1 refl;
      places = places (numbers_text fixed (numbers r)) r.body (length r.topic) r.topic (to_be_bytes w16 (length (written r.props) + 14)) (written r.props) seal_name (digits (crc_of (front r ++ unsealed))) rest refl refl refl (length-digits _);
    }

-- ---- a layout is read as its record

abbrev lengths_of : Entry → Lengths
lengths_of r = record { body = length r.body; topic = length r.topic; props = length (written r.props) }

lengths_again : (b : List ℕ) (r : Entry) → IsRecord r → Holds b r → lengths_in b ≡ Some (lengths_of r)
lengths_again b r h k =
    let B = length r.body in
    let T = length r.topic in
    let P = length (written r.props) in
    let e0 : n32 b 0 ≡ size r = ap (λ (x : List ℕ). get_or x 0 0) k.nums in
    let e84 : n32 b 84 ≡ B = ap (λ (x : List ℕ). get_or x 14 0) k.nums in
    let t : get_or b (88 + B) 0 ≡ T = k.places.tlen_at in
    let p : n16 b (89 + B + T) ≡ P + 14 = ap (from_be_bytes w16) k.places.plen_at ∙ from_be_bytes-to_be_bytes_2 (P + 14) h.props in
    let props : size r - (105 + B + T) ≡ P = omega arith in
    let within : size r ≤ length b = k.places.within_at in
    lengths_1 b (omega (arith, within)) ∙ ap (lengths_past_size b) e0 ∙ lengths_2 b (size r) (omega arith) within (omega (arith, e84)) ∙ ap (lengths_past_body b (size r)) e84
    ∙ lengths_3 b (size r) B (omega (arith, t)) ∙ ap (lengths_past_topic b (size r) B) t ∙ lengths_4 b (size r) B T (omega (arith, p))
    ∙ ap (λ (n : ℕ). Some (record { body = B; topic = T; props = n })) props

entry_again : (b : List ℕ) (r : Entry) → IsRecord r → Holds b r → entry_in b (lengths_of r) r.props ≡ r
entry_again b r h k =
    let queue : n32 b 12 ≡ r.queue = ap (λ (x : List ℕ). get_or x 3 0) k.nums in
    let flag : cast_signed w32 (n32 b 16) ≡ r.flag = ap (λ (x : List ℕ). cast_signed w32 (get_or x 4 0)) k.nums ∙ to_z-of_z {w = w32} {z = r.flag} h.flag in
    let queue_offset : n64 b 20 ≡ r.queue_offset = ap (λ (x : List ℕ). get_or x 5 0) k.nums in
    let offset : n64 b 28 ≡ r.offset = ap (λ (x : List ℕ). get_or x 6 0) k.nums in
    let sysflag : n32 b 36 ≡ r.sysflag = ap (λ (x : List ℕ). get_or x 7 0) k.nums in
    let born : n64 b 40 ≡ r.born = ap (λ (x : List ℕ). get_or x 8 0) k.nums in
    let store : n64 b 56 ≡ r.store = ap (λ (x : List ℕ). get_or x 10 0) k.nums in
    let reconsume : cast_signed w32 (n32 b 72) ≡ r.reconsume = ap (λ (x : List ℕ). cast_signed w32 (get_or x 12 0)) k.nums ∙ to_z-of_z {w = w32} {z = r.reconsume} h.reconsume in
    let prepared : n64 b 76 ≡ r.prepared = ap (λ (x : List ℕ). get_or x 13 0) k.nums in
    let body = k.places.body_at in
    let topic = k.places.topic_at in
    rw (topic, queue, flag, sysflag, born, k.born_host, k.store_host, reconsume, prepared, body, queue_offset, offset, store) refl

spelled_again : (b : List ℕ) (r : Entry) → Holds b r → is_spelled b (lengths_of r) ≡ true
unfolding is_spelled
spelled_again b r k =
    let magic_is : n32 b 4 ≡ magic = ap (λ (x : List ℕ). get_or x 1 0) k.nums in
    let crc : n32 b 8 ≡ body_crc r.body = ap (λ (x : List ℕ). get_or x 2 0) k.nums in
    let crc_is : n32 b 8 ≡ body_crc (take (length r.body) (drop 88 b)) = crc ∙ ap body_crc (sym k.places.body_at) in
    let seal = k.places.seal_at ∙ ap (λ (w : List ℕ). digits (crc_of (w ++ unsealed)) ++ 2 ∷ []) (sym k.places.before_at) in
    and_from _ _ (and_from _ _ (and_from _ _ (eq-eqb _ _ magic_is) (eq-eqb _ _ crc_is)) ((bytes_eq-Decides _ _).1 k.places.name_at)) ((bytes_eq-Decides _ _).1 seal)

again_by : (b : List ℕ) (r : Entry) → IsRecord r → Holds b r → parsed b ≡ Some r
unfolding parsed entry_at
again_by b r h k =
    let s = said r h.entry in
    let props : pairs_in (length (written r.props)) (take (length (written r.props)) (drop (91 + length r.body + length r.topic) b)) ≡ Some r.props =
    ap (pairs_in (length (written r.props))) k.places.props_at ∙ pairs_again (length (written r.props)) r.props s.pairs (omega arith) in
    rw (lengths_again b r h k, props, entry_again b r h k, h.entry, spelled_again b r k) refl

-- a layout is read as its record, whatever follows
pub parsed_again : (r : Entry) (rest : List ℕ) → IsRecord r → parsed (layout r ++ rest) ≡ Some r
parsed_again r rest h = again_by (layout r ++ rest) r h (holds r rest h)

-- no layout is another one and more
pub no_prefix : (r s : Entry) (rest : List ℕ) → IsRecord r → IsRecord s → layout r ++ rest ≡ layout s → (r ≡ s) × (rest ≡ [])
no_prefix r s rest hr hs e =
    let one : Some r ≡ Some s = sym (parsed_again r rest hr) ∙ ap parsed (e ∙ sym (append-nil (layout s))) ∙ parsed_again s [] hs in
    let same = some_is r s one in
    let back : layout r ++ rest ≡ layout r = e ∙ ap layout (sym same) in
    (same, nil_from_length rest (omega (arith, ap (λ (w : List ℕ). length w) back, length-append (layout r) rest)))
