-- Hexadecimal text of bytes: two digits for each, all of them ASCII.
use Rattle.std.proofs.Common.{◌≡◌, ℕ, ◌+◌, ◌*◌, ◌/◌, ◌%◌, ◌<◌, List, [], ◌∷◌, ◌++◌, length, get_or, take, set, suc, refl, sym, ap, ◌∙◌, append_assoc, arith}
use Rattle.std.specs.Str.{IsAscii}
use Rattle.std.proofs.lemmas.List.{length-set, take_more, take_more_set}
use Rattle.std.proofs.lemmas.Str.Ascii.{IsAscii-nil, IsAscii-cons}
use Rattle.std.proofs.lemmas.Bool.Decides.{nat_tests}
use Rattle.std.specs.Prelude.{All}
use Rattle.std.proofs.lemmas.List.Elements.{All-nil, All-cons, All-append, All-same}
use Rattle.mq_bytes.specs.Hex.{hex_digit, IsHexDigit}
use Rattle.mq_bytes.specs.Ids.{hex_of}

pub hex_digit_is_ascii : (d : ℕ) → d < 16 → hex_digit d < 128
hex_digit_is_ascii d lt = grind (arith, nat_tests)

pub hex_of_is_ascii : (bytes : List ℕ) → ((i : ℕ) → get_or bytes i 0 < 256) → IsAscii (hex_of bytes)
hex_of_is_ascii [] fits = IsAscii-nil
hex_of_is_ascii (b ∷ bytes) fits =
    let byte : b < 256 = fits 0 in
    IsAscii-cons (hex_digit (b / 16)) (hex_digit (b % 16) ∷ hex_of bytes) (hex_digit_is_ascii (b / 16) (omega arith))
    (IsAscii-cons (hex_digit (b % 16)) (hex_of bytes) (hex_digit_is_ascii (b % 16) (omega arith)) (hex_of_is_ascii bytes (λ i. fits (suc i))))

pub hex_of-append : (a b : List ℕ) → hex_of (a ++ b) ≡ hex_of a ++ hex_of b
hex_of-append [] b = refl
hex_of-append (x ∷ a) b = ap (λ (ds : List ℕ). hex_digit (x / 16) ∷ hex_digit (x % 16) ∷ ds) (hex_of-append a b)

-- one byte more of the bytes
hex_of-take : (bytes : List ℕ) (i : ℕ) → i < length bytes →
    hex_of (take (i + 1) bytes) ≡ hex_of (take i bytes) ++ (hex_digit (get_or bytes i 0 / 16) ∷ hex_digit (get_or bytes i 0 % 16) ∷ [])
hex_of-take bytes i lt = ap hex_of (take_more bytes i 0 lt) ∙ hex_of-append (take i bytes) (get_or bytes i 0 ∷ [])

-- two digits more of the digits
pair_more : (digits : List ℕ) (i a b : ℕ) → 2 * i + 1 < length digits → take (2 * i + 1 + 1) (set (set digits (2 * i) a) (2 * i + 1) b) ≡ take (2 * i) digits ++ (a ∷ b ∷ [])
pair_more digits i a b lt =
    let second = take_more_set (set digits (2 * i) a) (2 * i + 1) b (omega (arith, length-set digits (2 * i) a)) in
    let first = take_more_set digits (2 * i) a (omega arith) in
    second ∙ ap (λ (ds : List ℕ). ds ++ b ∷ []) first ∙ append_assoc (take (2 * i) digits) (a ∷ []) (b ∷ [])

-- a turn of the loop that writes the digits of one byte
pub hex_more : (bytes digits : List ℕ) (i a b : ℕ) → i < length bytes → 2 * i + 1 < length digits → take (2 * i) digits ≡ hex_of (take i bytes) →
    a ≡ hex_digit (get_or bytes i 0 / 16) → b ≡ hex_digit (get_or bytes i 0 % 16) →
    take (2 * (i + 1)) (set (set digits (2 * i) a) (2 * i + 1) b) ≡ hex_of (take (i + 1) bytes)
hex_more bytes digits i a b lt room sofar high low =
    let twice : 2 * (i + 1) ≡ 2 * i + 1 + 1 = omega arith in
    rw (twice, pair_more digits i a b room, sofar, high, low) (sym (hex_of-take bytes i lt))

-- ---- reading

pair_of : (digits : List ℕ) (i : ℕ) → 2 * i + 1 < length digits → take (2 * (i + 1)) digits ≡ take (2 * i) digits ++ (get_or digits (2 * i) 0 ∷ get_or digits (2 * i + 1) 0 ∷ [])
pair_of digits i room =
    let twice : 2 * (i + 1) ≡ 2 * i + 1 + 1 = omega arith in
    ap (λ (n : ℕ). take n digits) twice ∙ take_more digits (2 * i + 1) 0 room
    ∙ ap (λ (ds : List ℕ). ds ++ get_or digits (2 * i + 1) 0 ∷ []) (take_more digits (2 * i) 0 (omega arith))
    ∙ append_assoc (take (2 * i) digits) (get_or digits (2 * i) 0 ∷ []) (get_or digits (2 * i + 1) 0 ∷ [])

-- a turn of the loop that reads the digits of one byte
pub byte_more : (digits bytes : List ℕ) (i high low : ℕ) → i < length bytes → 2 * i + 1 < length digits → (high < 16) × (get_or digits (2 * i) 0 ≡ hex_digit high) →
    (low < 16) × (get_or digits (2 * i + 1) 0 ≡ hex_digit low) → hex_of (take i bytes) ≡ take (2 * i) digits →
    hex_of (take (i + 1) (set bytes i (16 * high + low))) ≡ take (2 * (i + 1)) digits
byte_more digits bytes i high low lt room first second sofar =
    let above : (16 * high + low) / 16 ≡ high = omega (arith, second.0) in
    let below : (16 * high + low) % 16 ≡ low = omega (arith, second.0) in
    let pair : hex_of ((16 * high + low) ∷ []) ≡ get_or digits (2 * i) 0 ∷ get_or digits (2 * i + 1) 0 ∷ [] = rw (above, below, first.1, second.1) refl in
    ap hex_of (take_more_set bytes i (16 * high + low) lt) ∙ hex_of-append (take i bytes) ((16 * high + low) ∷ [])
    ∙ ap (λ (ds : List ℕ). ds ++ hex_of ((16 * high + low) ∷ [])) sofar ∙ ap (λ (ds : List ℕ). take (2 * i) digits ++ ds) pair ∙ sym (pair_of digits i room)

pub digits_more : (digits : List ℕ) (i : ℕ) → 2 * i + 1 < length digits → IsHexDigit (get_or digits (2 * i) 0) → IsHexDigit (get_or digits (2 * i + 1) 0) →
    All IsHexDigit (take (2 * i) digits) → All IsHexDigit (take (2 * (i + 1)) digits)
digits_more digits i room first second sofar =
    All-same IsHexDigit _ _ (pair_of digits i room)
    (All-append IsHexDigit (take (2 * i) digits) (get_or digits (2 * i) 0 ∷ get_or digits (2 * i + 1) 0 ∷ []) sofar
    (All-cons IsHexDigit (get_or digits (2 * i) 0) (get_or digits (2 * i + 1) 0 ∷ []) first (All-cons IsHexDigit (get_or digits (2 * i + 1) 0) [] second (All-nil IsHexDigit))))

hex_digit-injective : (a b : ℕ) → hex_digit a ≡ hex_digit b → a ≡ b
hex_digit-injective a b same = grind (arith, nat_tests)

pub hex_of-injective : (a b : List ℕ) → hex_of a ≡ hex_of b → a ≡ b
hex_of-injective [] [] same = refl
hex_of-injective [] (y ∷ b) same = cc
hex_of-injective (x ∷ a) [] same = cc
hex_of-injective (x ∷ a) (y ∷ b) same =
    let high = hex_digit-injective (x / 16) (y / 16) cc in
    let low = hex_digit-injective (x % 16) (y % 16) cc in
    let here : x ≡ y = omega (arith, high, low) in
    let others : a ≡ b = hex_of-injective a b cc in
    cc

pub length-hex_of : (bytes : List ℕ) → length (hex_of bytes) ≡ 2 * length bytes
length-hex_of [] = refl
length-hex_of (b ∷ bytes) = let others = length-hex_of bytes in omega arith
