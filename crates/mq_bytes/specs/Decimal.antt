-- Whole numbers as decimal text.
use Rattle.std.specs.Prelude.{ℕ, ◌-◌, ◌^◌, ◌&&◌, nat_lt, nat_le, List, length, drop, ℤ, pos, neg_ℤ, Option, None, Some, if◌then◌else◌}
use Rattle.std.specs.Option.{option_map}
use Rattle.std.specs.Fmt.{decimal as unsigned_decimal, signed_decimal}
use Rattle.std.specs.Str.{all_ascii_digits}
use Rattle.std.specs.Str.Parse.{starts_with_minus, digits_value}

-- the digits of a number, with no leading zero: `0`, `7`, `42`
abbrev pub digits_of : ℕ → List ℕ
digits_of n = unsigned_decimal n

-- the digits, behind a `-` where the number is negative
abbrev pub decimal : ℤ → List ℕ
decimal z = signed_decimal z

-- the number that the text writes, where it is one digit or more and nothing else, and the number at most `most`
abbrev pub number_up_to : ℕ → List ℕ → Option ℕ
number_up_to most ds = if nat_lt 0 (length ds) && all_ascii_digits ds && nat_le (digits_value 10 ds) most then Some (digits_value 10 ds)
    else None

-- the number that the text writes, where it is digits, perhaps behind a `-`, and the number within 64 signed bits:
-- leading zeros and `-0` are numbers, `+1` is none
unfoldable pub decimal_value : List ℕ → Option ℤ
decimal_value text = if starts_with_minus text then option_map (λ n. neg_ℤ (pos n)) (number_up_to (2 ^ 63) (drop 1 text))
    else option_map pos (number_up_to (2 ^ 63 - 1) text)
