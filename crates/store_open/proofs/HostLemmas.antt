-- A host's text, cut at its dots and its colon.
use Rattle.std.proofs.Common.{◌≢◌, ℕ, ◌<◌, ◌^◌, length, get_or, arith}
use Rattle.std.proofs.lemmas.Fmt.{decimal_is_IsNumeral}
use Rattle.std.proofs.lemmas.Str.Parse.{digit_at}
use Rattle.mq_bytes.specs.Decimal.{digits_of}

-- no dot stands among the digits of a number
pub no_dot : (n : ℕ) → n < 2 ^ 64 → (i : ℕ) → i < length (digits_of n) → get_or (digits_of n) i 0 ≢ 46
no_dot n small i within =
    let numeral = decimal_is_IsNumeral n small in
    let digit = digit_at (digits_of n) i numeral.0.1 within in
    λ dot. omega (arith, digit, dot)

-- and no colon
pub no_colon : (n : ℕ) → n < 2 ^ 64 → (i : ℕ) → i < length (digits_of n) → get_or (digits_of n) i 0 ≢ 58
no_colon n small i within =
    let numeral = decimal_is_IsNumeral n small in
    let digit = digit_at (digits_of n) i numeral.0.1 within in
    λ colon. omega (arith, digit, colon)
