-- A format's text, cut at its spaces and its line end.
use Rattle.std.proofs.Common.{◌≡◌, ◌≢◌, ℕ, ◌<◌, ◌^◌, List, ◌++◌, length, get_or, codes, sym, ◌∙◌, arith}
use Rattle.std.proofs.lemmas.Fmt.{decimal_is_IsNumeral, IsAscii-decimal}
use Rattle.std.proofs.lemmas.Str.{IsUtf8-from_ascii, IsAscii-append}
use Rattle.std.proofs.lemmas.Str.Ascii.{IsAscii-cons}
use Rattle.std.proofs.lemmas.Str.Parse.{digit_at}
use Rattle.std.proofs.lemmas.List.{append_cancel_left, append_cancel_right}
use Rattle.std.specs.Str.{IsUtf8}
use Rattle.mq_bytes.specs.Decimal.{digits_of}
use Rattle.store_open.specs.declared.format.Sizes.{Sizes}
use Rattle.store_open.specs.Formats.{sizes_text, AreSizes}

-- no space stands among the digits of a number
pub no_space : (n : ℕ) → n < 2 ^ 64 → (i : ℕ) → i < length (digits_of n) → get_or (digits_of n) i 0 ≢ 32
no_space n small i within =
    let numeral = decimal_is_IsNumeral n small in
    let digit = digit_at (digits_of n) i numeral.0.1 within in
    λ space. omega (arith, digit, space)

-- the sizes stand between the head and the line end, in one way
pub sizes_between : (text rest sizes wanted : List ℕ) → text ≡ codes "mq_broker 1 " ++ rest → rest ≡ sizes ++ codes "\n" → text ≡ codes "mq_broker 1 " ++ (wanted ++ codes "\n") → sizes ≡ wanted
sizes_between text rest sizes wanted front end whole =
    append_cancel_right sizes wanted (codes "\n") (sym end ∙ append_cancel_left (codes "mq_broker 1 ") rest (wanted ++ codes "\n") (sym front ∙ whole))

-- sizes are text
pub sizes_are_text : (sizes : Sizes) → AreSizes sizes → IsUtf8 (sizes_text sizes)
sizes_are_text sizes allowed =
    IsUtf8-from_ascii _ (IsAscii-append _ _ (IsAscii-decimal sizes.segment (omega (arith, allowed.segment.high)))
    (IsAscii-cons 32 _ (omega arith) (IsAscii-append _ _ (IsAscii-decimal sizes.slots (omega (arith, allowed.slots.high)))
    (IsAscii-cons 32 _ (omega arith) (IsAscii-decimal sizes.entries (omega (arith, allowed.entries.high)))))))
