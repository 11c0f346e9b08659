-- A body is split into the messages that its bytes are.
use Rattle.std.proofs.Common.{◌≡◌, ℕ, ℤ, zero, suc, ◌+◌, ◌^◌, ◌<◌, ◌≤◌, ◌||◌, List, [], ◌∷◌, ◌++◌, length, take, drop, Bool, true, false, cond, ltb, eqb, eq-eqb, Option, Some, None, option_map, refl, sym, ap, subst, ◌∙◌, append_assoc, arith, length-append, length-drop}
use Rattle.std.specs.Prelude.{FitsSigned}
use Rattle.std.specs.Int.{w16, w32, from_be_bytes, to_be_bytes, cast_signed, cast_unsigned}
use Rattle.std.specs.Str.{IsUtf8, is_utf8}
use Rattle.std.proofs.lemmas.Bool.{le-ltb, ltb-false, eqb-true}
use Rattle.std.proofs.lemmas.Str.{IsUtf8-from_is_utf8}
use Rattle.std.proofs.lemmas.List.{take-append-drop, length-take-le, drop-drop}
use Rattle.std.proofs.lemmas.Int.{to_z-of_z, of_z-to_z}
use Rattle.std.proofs.lemmas.Option.{same_Some}
use Rattle.std.proofs.Math.Facts.{Fits-of_z, sfits_to_z}
use Rattle.mq_bytes.specs.Bytes.{AreBytes}
use Rattle.batch_records.specs.declared.message.Message.{Message}
use Rattle.batch_records.specs.Layout.{size_of, IsMessage, AreMessages}
use Rattle.batch_records.specs.Reading.{◌>>=◌, number_at, text_of, props_len_of, body_len_of, lengths_of, message_of, first_message, messages_within, messages_in}
use Rattle.batch_records.proofs.Wire.{wide16, wide32, part_at, rest_at, AreBytes-take, AreBytes-drop}
use Rattle.batch_records.proofs.BatchReading.{text_is, bind_some, message_parts, message_of_parts, first_shorter}

-- ---- what is spelled so is read

lengths_are : (bytes : List ℕ) (b p : ℕ) → 22 + b + p ≤ length bytes → number_at w32 0 bytes ≡ 22 + b + p → number_at w32 16 bytes ≡ b → number_at w16 (20 + b) bytes ≡ p → lengths_of bytes ≡ Some (b, p)
unfolding lengths_of body_len_of props_len_of
lengths_are bytes b p le size body props =
    let fixed : ltb (length bytes) 22 ≡ false = le-ltb _ _ (omega arith) in
    let whole : ltb (length bytes) (22 + b + p) ≡ false = le-ltb _ _ le in
    let inside : ltb (22 + b + p) (22 + b) ≡ false = le-ltb _ _ (omega arith) in
    let agree : eqb (22 + b + p) (22 + b + p) ≡ true = eq-eqb _ _ refl in
    rw (fixed, size, body, whole, inside, props, agree) refl

-- a signed number is what its bytes are
signed32 : (z : ℤ) → FitsSigned w32 z → cast_signed w32 (from_be_bytes w32 (to_be_bytes w32 (cast_unsigned w32 z))) ≡ z
signed32 z fits = ap (cast_signed w32) (wide32.again (cast_unsigned w32 z) (omega (arith, Fits-of_z {w = w32} {z = z} fits))) ∙ to_z-of_z w32 z fits

-- the message of these parts
message_is : (bytes : List ℕ) (b p : ℕ) (m : Message) → cast_signed w32 (number_at w32 12 bytes) ≡ m.flag → take b (drop 20 bytes) ≡ m.body → take p (drop (22 + b) bytes) ≡ m.props → IsUtf8 m.props → message_of bytes b p ≡ Some m
message_is bytes b p m flag body props text = rw (flag, body, props, text_is m.props text) refl

split_message : (S W F B body P props rest : List ℕ) → S ++ W ++ F ++ B ++ body ++ P ++ props ++ rest ≡ S ++ (W ++ (F ++ (B ++ (body ++ (P ++ (props ++ rest))))))
split_message S W F B body P props rest = simp append_assoc

pub message_again : (bytes : List ℕ) (m : Message) (rest : List ℕ) → IsMessage bytes m rest → first_message bytes ≡ Some (m, rest)
message_again bytes m rest is =
    let b = length m.body in
    let p = length m.props in
    let S = to_be_bytes w32 (size_of m) in
    let F = to_be_bytes w32 (cast_unsigned w32 m.flag) in
    let B = to_be_bytes w32 b in
    let P = to_be_bytes w16 p in
    let t6 = m.props ++ rest in
    let t5 = P ++ t6 in
    let t4 = m.body ++ t5 in
    let t3 = B ++ t4 in
    let t2 = F ++ t3 in
    let t1 = is.words ++ t2 in
    let r1 : bytes ≡ S ++ t1 = is.spelled ∙ split_message S is.words F B m.body P m.props rest in
    let r2 : bytes ≡ (S ++ is.words) ++ t2 = r1 ∙ sym (append_assoc S is.words t2) in
    let r3 : bytes ≡ ((S ++ is.words) ++ F) ++ t3 = r2 ∙ sym (append_assoc (S ++ is.words) F t3) in
    let r4 : bytes ≡ (((S ++ is.words) ++ F) ++ B) ++ t4 = r3 ∙ sym (append_assoc ((S ++ is.words) ++ F) B t4) in
    let r5 : bytes ≡ ((((S ++ is.words) ++ F) ++ B) ++ m.body) ++ t5 = r4 ∙ sym (append_assoc (((S ++ is.words) ++ F) ++ B) m.body t5) in
    let r6 : bytes ≡ (((((S ++ is.words) ++ F) ++ B) ++ m.body) ++ P) ++ t6 = r5 ∙ sym (append_assoc ((((S ++ is.words) ++ F) ++ B) ++ m.body) P t6) in
    let r7 : bytes ≡ ((((((S ++ is.words) ++ F) ++ B) ++ m.body) ++ P) ++ m.props) ++ rest = r6 ∙ sym (append_assoc (((((S ++ is.words) ++ F) ++ B) ++ m.body) ++ P) m.props rest) in
    let l1 : length S ≡ 4 = wide32.len (size_of m) in
    let f4 : length F ≡ 4 = wide32.len (cast_unsigned w32 m.flag) in
    let b4 : length B ≡ 4 = wide32.len b in
    let p2 : length P ≡ 2 = wide16.len p in
    let l2 : length (S ++ is.words) ≡ 12 = omega (arith, l1, is.two_words, length-append S is.words) in
    let l3 : length ((S ++ is.words) ++ F) ≡ 16 = omega (arith, l2, f4, length-append (S ++ is.words) F) in
    let l4 : length (((S ++ is.words) ++ F) ++ B) ≡ 20 = omega (arith, l3, b4, length-append ((S ++ is.words) ++ F) B) in
    let l5 : length ((((S ++ is.words) ++ F) ++ B) ++ m.body) ≡ 20 + b = omega (arith, l4, length-append (((S ++ is.words) ++ F) ++ B) m.body) in
    let l6 : length (((((S ++ is.words) ++ F) ++ B) ++ m.body) ++ P) ≡ 22 + b = omega (arith, l5, p2, length-append ((((S ++ is.words) ++ F) ++ B) ++ m.body) P) in
    let l7 : length ((((((S ++ is.words) ++ F) ++ B) ++ m.body) ++ P) ++ m.props) ≡ 22 + b + p = omega (arith, l6, length-append (((((S ++ is.words) ++ F) ++ B) ++ m.body) ++ P) m.props) in
    let all : 22 + b + p ≤ length bytes = omega (arith, l7, ap (λ (w : List ℕ). length w) r7, length-append ((((((S ++ is.words) ++ F) ++ B) ++ m.body) ++ P) ++ m.props) rest) in
    let size_is : number_at w32 0 bytes ≡ 22 + b + p = ap (from_be_bytes w32) (part_at [] S t1 bytes 0 4 r1 refl l1) ∙ wide32.again (size_of m) is.size in
    let body_len : number_at w32 16 bytes ≡ b = ap (from_be_bytes w32) (part_at ((S ++ is.words) ++ F) B t4 bytes 16 4 r3 l3 b4) ∙ wide32.again b (omega (arith, is.size)) in
    let props_len : number_at w16 (20 + b) bytes ≡ p = ap (from_be_bytes w16) (part_at ((((S ++ is.words) ++ F) ++ B) ++ m.body) P t6 bytes (20 + b) 2 r5 l5 p2) ∙ wide16.again p is.props in
    let flag_is : cast_signed w32 (number_at w32 12 bytes) ≡ m.flag = ap (λ (w : List ℕ). cast_signed w32 (from_be_bytes w32 w)) (part_at (S ++ is.words) F t3 bytes 12 4 r2 l2 f4) ∙ signed32 m.flag is.flag in
    let message = message_is bytes b p m flag_is (part_at (((S ++ is.words) ++ F) ++ B) m.body t5 bytes 20 b r4 l4 refl) (part_at (((((S ++ is.words) ++ F) ++ B) ++ m.body) ++ P) m.props rest bytes (22 + b) p r6 l6 refl) is.text in
    message_of_parts bytes b p m (lengths_are bytes b p all size_is body_len props_len) message
    ∙ ap (λ (w : List ℕ). Some (m, w)) (rest_at ((((((S ++ is.words) ++ F) ++ B) ++ m.body) ++ P) ++ m.props) rest bytes (22 + b + p) r7 l7)

-- ---- tests that were passed

past_none : {A : Type 0} (b : Bool) (o : Option A) (y : A) → cond b None o ≡ Some y → (b ≡ false) × (o ≡ Some y)
past_none true o y e = absurd cc
past_none false o y e = (refl, e)

past_test : {A : Type 0} (b : Bool) (o : Option A) (y : A) → cond b o None ≡ Some y → (b ≡ true) × (o ≡ Some y)
past_test true o y e = (refl, e)
past_test false o y e = absurd cc

neither : (a b : Bool) → (a || b) ≡ false → (a ≡ false) × (b ≡ false)
neither true b e = absurd cc
neither false b e = (refl, e)

record LengthsParts (bytes : List ℕ) (lengths : ℕ × ℕ) : Type 0 where
  long : 22 + lengths.0 + lengths.1 ≤ length bytes
  size_is : number_at w32 0 bytes ≡ 22 + lengths.0 + lengths.1
  body_is : number_at w32 16 bytes ≡ lengths.0
  props_is : number_at w16 (20 + lengths.0) bytes ≡ lengths.1

lengths_parts : (bytes : List ℕ) (lengths : ℕ × ℕ) → lengths_of bytes ≡ Some lengths → LengthsParts bytes lengths
unfolding lengths_of body_len_of props_len_of
lengths_parts bytes lengths e =
    let size = number_at w32 0 bytes in
    let body = number_at w32 16 bytes in
    let props = number_at w16 (20 + body) bytes in
    let a = past_none (ltb (length bytes) 22) _ lengths e in
    let b = past_none (ltb (length bytes) size || ltb size (22 + body)) _ lengths a.1 in
    let c = neither (ltb (length bytes) size) (ltb size (22 + body)) b.0 in
    let d = past_test (eqb (22 + body + props) size) _ lengths b.1 in
    let whole : size ≤ length bytes = ltb-false _ _ c.0 in
    let agree : 22 + body + props ≡ size = eqb-true _ _ d.0 in
    subst (LengthsParts bytes) (same_Some (body, props) lengths d.1) (record { long = omega (arith, whole, agree); size_is = sym agree; body_is = refl; props_is = refl })

-- ---- all messages

read_first : (n : ℕ) (bytes : List ℕ) (m : Message) (rest : List ℕ) → first_message bytes ≡ Some (m, rest) → 0 < length bytes → messages_within (suc n) bytes ≡ option_map (λ others. m ∷ others) (messages_within n rest)
read_first n [] m rest e some = absurd (omega arith)
read_first n (b ∷ bytes) m rest e some = ap (λ (o : Option (Message × List ℕ)). o >>= λ first. option_map (λ others. first.0 ∷ others) (messages_within n first.1)) e

-- a message's bytes are more than those behind it
longer : (bytes : List ℕ) (m : Message) (rest : List ℕ) → IsMessage bytes m rest → length rest + 22 ≤ length bytes
longer bytes m rest is =
    let again = message_again bytes m rest is in
    let parts = message_parts bytes (m, rest) again in
    let lengths = lengths_parts bytes parts.0 parts.1 in
    omega (arith, lengths.long, first_shorter bytes (m, rest) again)

messages_again : (n : ℕ) (bytes : List ℕ) (ms : List Message) → length bytes ≤ n → AreMessages bytes ms → messages_within n bytes ≡ Some ms
messages_again n bytes [] le are = rw are refl
messages_again zero bytes (m ∷ ms) le are = absurd (omega (arith, longer bytes m are.0 are.1))
messages_again (suc n) bytes (m ∷ ms) le are =
    let long = longer bytes m are.0 are.1 in
    read_first n bytes m are.0 (message_again bytes m are.0 are.1) (omega arith) ∙ ap (option_map (λ others. m ∷ others)) (messages_again n are.0 ms (omega arith) are.2)

pub spelled_is_read : (bytes : List ℕ) (ms : List Message) → AreMessages bytes ms → messages_in bytes ≡ Some ms
spelled_is_read bytes ms are = messages_again (length bytes) bytes ms (omega arith) are

-- ---- what is read is spelled so

text_parts : (bytes text : List ℕ) → text_of bytes ≡ Some text → (bytes ≡ text) × IsUtf8 text
unfolding text_of
text_parts bytes text e =
    let p = past_test (is_utf8 bytes) _ text e in
    let same = same_Some bytes text p.1 in
    (same, subst IsUtf8 same (IsUtf8-from_is_utf8 bytes p.0))

map_some : {A B : Type 0} (f : A → B) (o : Option A) (y : B) → option_map f o ≡ Some y → (x : A) × (o ≡ Some x) × (f x ≡ y)
map_some f (Some x) y e = (x, refl, same_Some _ y e)
map_some f None y e = absurd cc

-- a number's bytes, where the number is there
number_back16 : (at n : ℕ) (bytes : List ℕ) → AreBytes bytes → at + 2 ≤ length bytes → number_at w16 at bytes ≡ n → take 2 (drop at bytes) ≡ to_be_bytes w16 n
number_back16 at n bytes fits le e = sym (wide16.back (take 2 (drop at bytes)) (length-take-le 2 (drop at bytes) (omega (arith, length-drop at bytes))) (AreBytes-take 2 (drop at bytes) (AreBytes-drop at bytes fits))) ∙ ap (to_be_bytes w16) e

number_back32 : (at n : ℕ) (bytes : List ℕ) → AreBytes bytes → at + 4 ≤ length bytes → number_at w32 at bytes ≡ n → take 4 (drop at bytes) ≡ to_be_bytes w32 n
number_back32 at n bytes fits le e = sym (wide32.back (take 4 (drop at bytes)) (length-take-le 4 (drop at bytes) (omega (arith, length-drop at bytes))) (AreBytes-take 4 (drop at bytes) (AreBytes-drop at bytes fits))) ∙ ap (to_be_bytes w32) e

below32 : (at : ℕ) (bytes : List ℕ) → AreBytes bytes → number_at w32 at bytes < 2 ^ 32
below32 at bytes fits = wide32.below (take 4 (drop at bytes)) (AreBytes-take 4 (drop at bytes) (AreBytes-drop at bytes fits))

below16 : (at : ℕ) (bytes : List ℕ) → AreBytes bytes → number_at w16 at bytes < 2 ^ 16
below16 at bytes fits = wide16.below (take 2 (drop at bytes)) (AreBytes-take 2 (drop at bytes) (AreBytes-drop at bytes fits))

-- the bytes from a place on, cut once
cut_at : (at n : ℕ) (bytes part : List ℕ) → take n (drop at bytes) ≡ part → drop at bytes ≡ part ++ drop (at + n) bytes
cut_at at n bytes part e = sym (take-append-drop n (drop at bytes)) ∙ ap (λ (w : List ℕ). take n (drop at bytes) ++ w) (drop-drop n at bytes) ∙ ap (λ (w : List ℕ). w ++ drop (at + n) bytes) e

pub message_takes : (bytes : List ℕ) (x : Message × List ℕ) → AreBytes bytes → first_message bytes ≡ Some x → IsMessage bytes x.0 x.1 × AreBytes x.1
message_takes bytes x fits e =
    let m = x.0 in
    let parts = message_parts bytes x e in
    let b = parts.0.0 in
    let p = parts.0.1 in
    let lengths = lengths_parts bytes parts.0 parts.1 in
    let long : 22 + b + p ≤ length bytes = lengths.long in
    let flag_number = number_at w32 12 bytes in
    let made = map_some (λ (text : List ℕ). record { flag = cast_signed w32 flag_number; body = take b (drop 20 bytes); props = text }) (text_of (take p (drop (22 + b) bytes))) m parts.2 in
    let text = text_parts (take p (drop (22 + b) bytes)) made.0 made.1 in
    let flag_is : cast_signed w32 flag_number ≡ m.flag = ap (λ (w : Message). w.flag) made.2 in
    let body_is : take b (drop 20 bytes) ≡ m.body = ap (λ (w : Message). w.body) made.2 in
    let same_props : made.0 ≡ m.props = ap (λ (w : Message). w.props) made.2 in
    let props_is : take p (drop (22 + b) bytes) ≡ m.props = text.0 ∙ same_props in
    let body_len : length m.body ≡ b = ap (λ (w : List ℕ). length w) (sym body_is) ∙ length-take-le b (drop 20 bytes) (omega (arith, length-drop 20 bytes)) in
    let props_len : length m.props ≡ p = ap (λ (w : List ℕ). length w) (sym props_is) ∙ length-take-le p (drop (22 + b) bytes) (omega (arith, length-drop (22 + b) bytes)) in
    let size_len : size_of m ≡ 22 + b + p = omega (arith, body_len, props_len) in
    let S = number_back32 0 (size_of m) bytes fits (omega arith) (lengths.size_is ∙ sym size_len) in
    let below = below32 12 bytes fits in
    let unsigned : flag_number ≡ cast_unsigned w32 m.flag = sym (of_z-to_z w32 flag_number below) ∙ ap (cast_unsigned w32) flag_is in
    let F = number_back32 12 (cast_unsigned w32 m.flag) bytes fits (omega arith) unsigned in
    let B = number_back32 16 (length m.body) bytes fits (omega arith) (lengths.body_is ∙ sym body_len) in
    let P = number_back16 (20 + b) (length m.props) bytes fits (omega arith) (lengths.props_is ∙ sym props_len) in
    let words = take 8 (drop 4 bytes) in
    let S' = to_be_bytes w32 (size_of m) in
    let F' = to_be_bytes w32 (cast_unsigned w32 m.flag) in
    let B' = to_be_bytes w32 (length m.body) in
    let P' = to_be_bytes w16 (length m.props) in
    let twenty_two : 20 + b + 2 ≡ 22 + b = omega arith in
    let c1 = cut_at 0 4 bytes S' S in
    let c2 = cut_at 4 8 bytes words refl in
    let c3 = cut_at 12 4 bytes F' F in
    let c4 = cut_at 16 4 bytes B' B in
    let c5 = cut_at 20 b bytes m.body body_is in
    let c6 = cut_at (20 + b) 2 bytes P' P ∙ ap (λ (k : ℕ). P' ++ drop k bytes) twenty_two in
    let c7 = cut_at (22 + b) p bytes m.props props_is ∙ ap (λ (w : List ℕ). m.props ++ w) (sym parts.3) in
    let whole : bytes ≡ S' ++ words ++ F' ++ B' ++ m.body ++ P' ++ m.props ++ x.1 =
    c1 ∙ ap (λ (w : List ℕ). S' ++ w) (c2 ∙ ap (λ (w : List ℕ). words ++ w) (c3 ∙ ap (λ (w : List ℕ). F' ++ w) (c4 ∙ ap (λ (w : List ℕ). B' ++ w) (c5 ∙ ap (λ (w : List ℕ). m.body ++ w) (c6 ∙ ap (λ (w : List ℕ). P' ++ w) c7)))))
    ∙ sym (split_message S' words F' B' m.body P' m.props x.1) in
    let size_below : size_of m < 2 ^ 32 = omega (arith, below32 0 bytes fits, lengths.size_is, size_len) in
    let props_below : length m.props < 2 ^ 16 = omega (arith, below16 (20 + b) bytes fits, lengths.props_is, props_len) in (
      record {
        words = words;
        spelled = whole;
        two_words = length-take-le 8 (drop 4 bytes) (omega (arith, length-drop 4 bytes));
        flag = subst (λ (z : ℤ). FitsSigned w32 z) flag_is (sfits_to_z {w = w32} {n = flag_number} (record { fits = below }));
        size = size_below;
        props = props_below;
        text = subst IsUtf8 same_props text.1;
      },
      subst AreBytes (sym parts.3) (AreBytes-drop (22 + b + p) bytes fits),
    )

messages_take : (n : ℕ) (bytes : List ℕ) (ms : List Message) → AreBytes bytes → messages_within n bytes ≡ Some ms → AreMessages bytes ms
messages_take n [] ms fits e = subst (AreMessages []) (same_Some [] ms e) refl
messages_take zero (b ∷ bytes) ms fits e = absurd cc
messages_take (suc n) (b ∷ bytes) ms fits e =
    let first = bind_some (first_message (b ∷ bytes)) (λ first. option_map (λ others. first.0 ∷ others) (messages_within n first.1)) ms e in
    let others = map_some (λ others. first.0.0 ∷ others) (messages_within n first.0.1) ms first.2 in
    let taken = message_takes (b ∷ bytes) first.0 fits first.1 in
    subst (AreMessages (b ∷ bytes)) others.2 (first.0.1, taken.0, messages_take n first.0.1 others.0 taken.1 others.1)

pub read_is_spelled : (bytes : List ℕ) (ms : List Message) → AreBytes bytes → messages_in bytes ≡ Some ms → AreMessages bytes ms
read_is_spelled bytes ms fits e = messages_take (length bytes) bytes ms fits e
