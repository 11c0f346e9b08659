-- The hash goes on over texts that stand apart, with its low 32 bits alone.
use Rattle.std.proofs.Common.{◌≡◌, ℕ, zero, suc, ◌+◌, ◌*◌, ◌%◌, ◌^◌, List, [], ◌∷◌, ◌++◌, ℤ, sym, ap, ◌∙◌, arith}
use Rattle.std.specs.List.{flat_map}
use Rattle.std.specs.Int.{w32, cast_signed, cast_unsigned}
use Rattle.std.specs.Int.Digits.{number_from_digits, number_from_digits_after}
use Rattle.std.specs.Char.Escape.{encode_utf16}
use Rattle.std.specs.Str.{chars, IsUtf8}
use Rattle.std.proofs.lemmas.List.{append-nil}
use Rattle.std.proofs.lemmas.Grind.{flat_map-append}
use Rattle.std.proofs.lemmas.Int.{of_z-to_z}
use Rattle.std.proofs.lemmas.Int.Digits.{number_after_append}
use Rattle.std.proofs.lemmas.Str.{chars-append}
use Rattle.mq_bytes.specs.Hashes.{utf16_units, java_hash}

-- two numbers with the same low bits, some units on
low_bits : (a b : ℕ) (units : List ℕ) → a % 2 ^ 32 ≡ b % 2 ^ 32 → number_from_digits_after 31 a units % 2 ^ 32 ≡ number_from_digits_after 31 b units % 2 ^ 32
low_bits a b [] same = same
low_bits a b (u ∷ units) same = low_bits (a * 31 + u) (b * 31 + u) units (omega arith)

-- some units on from what other units gave
on_from : (start hash : ℕ) (before units : List ℕ) → hash ≡ number_from_digits_after 31 start before % 2 ^ 32
    → number_from_digits_after 31 hash units % 2 ^ 32 ≡ number_from_digits_after 31 start (before ++ units) % 2 ^ 32
on_from start hash before units is =
    low_bits hash (number_from_digits_after 31 start before) units (omega (arith, is))
    ∙ sym (ap (λ (n : ℕ). n % 2 ^ 32) (number_after_append 31 start before units))

-- one character on
pub one_more : (start : ℕ) (cs : List ℕ) (c hash next : ℕ) → hash ≡ number_from_digits_after 31 start (flat_map encode_utf16 cs) % 2 ^ 32
    → next ≡ number_from_digits_after 31 hash (encode_utf16 c) % 2 ^ 32 → next ≡ number_from_digits_after 31 start (flat_map encode_utf16 (cs ++ c ∷ [])) % 2 ^ 32
one_more start cs c hash next so_far step =
    let joined : flat_map encode_utf16 (cs ++ c ∷ []) ≡ flat_map encode_utf16 cs ++ encode_utf16 c =
    flat_map-append encode_utf16 cs (c ∷ []) ∙ ap (λ (us : List ℕ). flat_map encode_utf16 cs ++ us) (append-nil (encode_utf16 c)) in
    step ∙ on_from start hash (flat_map encode_utf16 cs) (encode_utf16 c) so_far
    ∙ ap (λ (us : List ℕ). number_from_digits_after 31 start us % 2 ^ 32) (sym joined)

-- a text behind another one, which is UTF-8
units_append : (a b : List ℕ) → IsUtf8 a → utf16_units (a ++ b) ≡ utf16_units a ++ utf16_units b
units_append a b utf8 = ap (λ (cs : List ℕ). flat_map encode_utf16 cs) (chars-append a b utf8) ∙ flat_map-append encode_utf16 (chars a) (chars b)

-- a text on from the hash of what stands before it
pub text_on : (before text : List ℕ) (hash : ℤ) → IsUtf8 before → hash ≡ java_hash before
    → number_from_digits_after 31 (cast_unsigned w32 hash) (utf16_units text) % 2 ^ 32 ≡ number_from_digits 31 (utf16_units (before ++ text)) % 2 ^ 32
unfolding java_hash
text_on before text hash utf8 is =
    let so_far = number_from_digits 31 (utf16_units before) % 2 ^ 32 in
    let low : cast_unsigned w32 hash ≡ so_far = ap (cast_unsigned w32) is ∙ of_z-to_z w32 so_far (omega arith) in
    on_from 0 (cast_unsigned w32 hash) (utf16_units before) (utf16_units text) low
    ∙ ap (λ (us : List ℕ). number_from_digits_after 31 0 us % 2 ^ 32) (sym (units_append before text utf8))
