-- A seal at the end.
use Rattle.std.proofs.Common.{◌≡◌, ℕ, zero, suc, ◌+◌, ◌<◌, ◌++◌, List, [], ◌∷◌, length, take, drop, refl, sym, subst, ap, ◌∙◌, append_assoc, arith, length-append}
use Rattle.std.proofs.Math.Seq.{take-add, get_or-drop}
use Rattle.std.specs.Int.{w16, to_be_bytes}
use Rattle.std.proofs.lemmas.List.{take-append-drop, take_at, drop_at}
use Rattle.mq_bytes.specs.Bytes.{AreBytes}
use Rattle.mq_bytes.specs.Crc.{crc_of, crc_more}
use Rattle.mq_bytes.proofs.CrcLaws.{crc_more-of}
use Rattle.record_codec.specs.Entry.{Entry}
use Rattle.record_codec.specs.Props.{written}
use Rattle.record_codec.specs.Layout.{digits, sealed, unsealed, front, numbers_text, fixed, numbers, seal_name}

-- a record in front of which other bytes stand is sealed
pub finish : (out : List ℕ) (start : ℕ) → out ++ (digits (crc_of (drop start out ++ unsealed)) ++ 2 ∷ []) ≡ take start out ++ sealed (drop start out)
unfolding sealed
finish out start =
    let D = digits (crc_of (drop start out ++ unsealed)) in
    ap (λ (w : List ℕ). w ++ (D ++ 2 ∷ [])) (sym (take-append-drop start out)) ∙ append_assoc (take start out) (drop start out) (D ++ 2 ∷ [])

-- Bytes stay bytes.
pub bytes_taken : (n : ℕ) (bytes : List ℕ) → AreBytes bytes → AreBytes (take n bytes)
bytes_taken zero bytes are i = omega arith
bytes_taken (suc n) [] are i = omega arith
bytes_taken (suc n) (b ∷ bytes) are zero = are 0
bytes_taken (suc n) (b ∷ bytes) are (suc i) = bytes_taken n bytes (λ k. are (suc k)) i

pub bytes_within : (before body : List ℕ) (at : ℕ) → AreBytes before → take (length body) (drop at before) ≡ body → AreBytes body
bytes_within before body at are is =
    let dropped : AreBytes (drop at before) = λ i. subst (λ (b : ℕ). b < 256) (sym (get_or-drop at before i 0)) (are (at + i)) in
    subst AreBytes is (bytes_taken (length body) (drop at before) dropped)

-- the sum of all before the body and of the body goes on with what is behind it
pub around : (before body : List ℕ) (at : ℕ) → AreBytes before → take (length body) (drop at before) ≡ body →
    crc_more (crc_of (take at before ++ body)) (drop (at + length body) before) ≡ crc_of before
around before body at are is =
    let end = at + length body in
    let up_to : take at before ++ body ≡ take end before = ap (λ (w : List ℕ). take at before ++ w) (sym is) ∙ sym (take-add at (length body) before) in
    ap (λ (w : List ℕ). crc_more (crc_of w) (drop end before)) up_to
    ∙ crc_more-of (take end before) (drop end before) (bytes_taken end before are) ∙ ap crc_of (take-append-drop end before)

-- where the body stands behind other bytes
pub body_at : (o : List ℕ) (r : Entry) (start : ℕ) → length o ≡ start → take (length r.body) (drop (start + 88) (o ++ front r)) ≡ r.body
unfolding front
body_at o r start is =
    let fixed_text = numbers_text fixed (numbers r) in
    let behind = length r.topic ∷ (r.topic ++ (to_be_bytes w16 (length (written r.props) + 14) ++ (written r.props ++ seal_name))) in
    let long : length (o ++ fixed_text) ≡ start + 88 = omega (arith, length-append o fixed_text, is) in
    ap (λ (w : List ℕ). take (length r.body) (drop (start + 88) w)) (sym (append_assoc o fixed_text (r.body ++ behind)))
    ∙ ap (take (length r.body)) (drop_at (o ++ fixed_text) (r.body ++ behind) (start + 88) long)
    ∙ take_at r.body behind (length r.body) refl
