-- Message ids: what is read is what is written, both ways.
use Rattle.std.proofs.Common.{◌≡◌, ℕ, zero, suc, ◌+◌, ◌/◌, ◌%◌, ◌^◌, ◌<◌, ◌≤◌, List, [], ◌∷◌, ◌++◌, Bool, true, false, cond, ltb, length, take, drop, refl, sym, ap, ◌∙◌, inl, inr, arith, lit<, length-append, length-drop}
use Rattle.std.specs.Prelude.{All}
use Rattle.std.specs.List.{AllByRecursion}
use Rattle.std.specs.Int.{w64, to_be_bytes, from_be_bytes}
use Rattle.std.proofs.lemmas.Bool.{cases_lt}
use Rattle.std.proofs.lemmas.Bool.Decides.{nat_tests}
use Rattle.std.proofs.lemmas.List.{take_at, drop_at, take_all, length-take, get_or-drop, get_or-take, get_or_past, take-append-drop}
use Rattle.std.proofs.lemmas.List.Elements.{All-nil, All-cons, All-head, All-tail}
use Rattle.std.proofs.lemmas.Nat.{be_bytes_8, from_be_bytes-to_be_bytes_8}
use Rattle.mq_bytes.specs.Bytes.{AreBytes}
use Rattle.mq_bytes.specs.Hex.{hex_digit, IsHexDigit}
use Rattle.mq_bytes.specs.Ids.{hex_of, message_id_of, IsMessageId}
use Rattle.mq_bytes.proofs.HexLemmas.{hex_of-injective, length-hex_of}

AreBytes-drop : (n : ℕ) (bytes : List ℕ) → AreBytes bytes → AreBytes (drop n bytes)
AreBytes-drop n bytes h i = rw get_or-drop (h (n + i))

AreBytes-take : (n : ℕ) (bytes : List ℕ) → AreBytes bytes → AreBytes (take n bytes)
AreBytes-take n bytes h i =
    elim (cases_lt i n) [
      | inl lt ↦ rw (get_or-take n bytes i 0 lt) (h i)
      | inr le ↦ rw (get_or_past (take n bytes) i 0 (omega (arith, length-take n bytes))) (omega arith)
    ]

AreBytes-append : (a b : List ℕ) → AreBytes a → AreBytes b → AreBytes (a ++ b)
AreBytes-append [] b first second i = second i
AreBytes-append (x ∷ a) b first second zero = first 0
AreBytes-append (x ∷ a) b first second (suc i) = AreBytes-append a b (λ j. first (suc j)) second i

AreBytes-cons : (x : ℕ) (bytes : List ℕ) → x < 256 → AreBytes bytes → AreBytes (x ∷ bytes)
AreBytes-cons x bytes first others zero = first
AreBytes-cons x bytes first others (suc i) = others i

AreBytes-nil : AreBytes []
AreBytes-nil i = lit< tt

bytes_all : (bytes : List ℕ) → AllByRecursion (λ b. b < 256) bytes → AreBytes bytes
bytes_all [] are = AreBytes-nil
bytes_all (b ∷ bytes) are = AreBytes-cons b bytes are.0 (bytes_all bytes are.1)

byte_small : (n : ℕ) → n % 256 < 256
byte_small n = omega arith

AreBytes-be : (n : ℕ) → AreBytes (to_be_bytes w64 n)
AreBytes-be n = bytes_all (to_be_bytes w64 n) (byte_small _, (byte_small _, (byte_small _, (byte_small _, (byte_small _, (byte_small _, (byte_small _, (byte_small _, tt))))))))

digit_by_ten : (d : ℕ) → d < 16 → (b : Bool) → ltb d 10 ≡ b → IsHexDigit (cond b (48 + d) (55 + d))
digit_by_ten d lt true e = let low : d < 10 = grind (arith, nat_tests) in inl (omega arith, omega arith)
digit_by_ten d lt false e = let high : 10 ≤ d = grind (arith, nat_tests) in inr (omega arith, omega arith)

-- bytes are written in digits, and what is in digits was bytes
hex_of_are_digits : (bytes : List ℕ) → AreBytes bytes → All IsHexDigit (hex_of bytes)
hex_of_are_digits [] fits = All-nil IsHexDigit
hex_of_are_digits (b ∷ bytes) fits =
    let byte : b < 256 = fits 0 in
    All-cons IsHexDigit (hex_digit (b / 16)) (hex_digit (b % 16) ∷ hex_of bytes) (digit_by_ten (b / 16) (omega arith) (ltb (b / 16) 10) refl)
    (All-cons IsHexDigit (hex_digit (b % 16)) (hex_of bytes) (digit_by_ten (b % 16) (omega arith) (ltb (b % 16) 10) refl) (hex_of_are_digits bytes (λ i. fits (suc i))))

top_digit : (d : ℕ) → hex_digit d ≤ 70 → d < 16
top_digit d le = grind (arith, nat_tests)

below_the_top : (c : ℕ) → IsHexDigit c → c ≤ 70
below_the_top c (inl digit) = omega arith
below_the_top c (inr letter) = omega arith

bytes_from_digits : (bytes : List ℕ) → All IsHexDigit (hex_of bytes) → AreBytes bytes
bytes_from_digits [] are = AreBytes-nil
bytes_from_digits (b ∷ bytes) are =
    let first = All-head IsHexDigit (hex_digit (b / 16)) (hex_digit (b % 16) ∷ hex_of bytes) are in
    let others = All-tail IsHexDigit (hex_digit (b % 16)) (hex_of bytes) (All-tail IsHexDigit (hex_digit (b / 16)) (hex_digit (b % 16) ∷ hex_of bytes) are) in
    let high : b / 16 < 16 = top_digit (b / 16) (below_the_top _ first) in
    AreBytes-cons b bytes (omega arith) (bytes_from_digits bytes others)

-- ---- the two halves of the 16 bytes

-- 32 digits were read: they are the id of the two halves
pub id_of_halves : (text bytes host placed : List ℕ) (place : ℕ) → length text ≡ 32 → text ≡ hex_of bytes → All IsHexDigit text →
    host ≡ take 8 bytes → placed ≡ take 8 (drop 8 bytes) → place ≡ from_be_bytes w64 placed → text ≡ message_id_of host place
unfolding message_id_of
id_of_halves text bytes host placed place len spelled are first second read =
    let digits : All IsHexDigit (hex_of bytes) = rw (← spelled) are in
    let fits = bytes_from_digits bytes digits in
    let count : length bytes ≡ 16 = omega (arith, length-hex_of bytes, ap length spelled, len) in
    let half : take 8 (drop 8 bytes) ≡ drop 8 bytes = take_all 8 (drop 8 bytes) (omega (arith, length-drop 8 bytes)) in
    let is : placed ≡ drop 8 bytes = second ∙ half in
    let back : to_be_bytes w64 place ≡ placed = be_bytes_8 placed place (omega (arith, ap length is, length-drop 8 bytes)) (rw is (AreBytes-drop 8 bytes fits)) read in
    spelled ∙ ap hex_of (sym (take-append-drop 8 bytes) ∙ ap (λ (bs : List ℕ). take 8 bytes ++ bs) (sym is ∙ sym back) ∙ ap (λ (bs : List ℕ). bs ++ to_be_bytes w64 place) (sym first))

-- the halves of an id's bytes are its host and its place
pub halves_of_id : (text bytes host : List ℕ) (place : ℕ) → length host ≡ 8 → place < 2 ^ 64 → text ≡ hex_of bytes → text ≡ message_id_of host place →
    (take 8 bytes ≡ host) × (from_be_bytes w64 (take 8 (drop 8 bytes)) ≡ place)
unfolding message_id_of
halves_of_id text bytes host place len small spelled id =
    let same : bytes ≡ host ++ to_be_bytes w64 place = hex_of-injective bytes (host ++ to_be_bytes w64 place) (sym spelled ∙ id) in
    let front : take 8 bytes ≡ host = ap (take 8) same ∙ take_at host (to_be_bytes w64 place) 8 len in
    let behind : drop 8 bytes ≡ to_be_bytes w64 place = ap (drop 8) same ∙ drop_at host (to_be_bytes w64 place) 8 len in
    (front, ap (λ (bs : List ℕ). from_be_bytes w64 (take 8 bs)) behind ∙ from_be_bytes-to_be_bytes_8 place small)

pub message_id_of_is_id : (host : List ℕ) (place : ℕ) → length host ≡ 8 → AreBytes host → IsMessageId (message_id_of host place)
unfolding message_id_of
message_id_of_is_id host place len fits =
    let bytes = host ++ to_be_bytes w64 place in
    (omega (arith, length-hex_of bytes, length-append host (to_be_bytes w64 place), len), hex_of_are_digits bytes (AreBytes-append host (to_be_bytes w64 place) fits (AreBytes-be place)))
