-- Upper-case hexadecimal digits.
use Rattle.std.specs.Prelude.{ℕ, ◌+◌, ◌⊎◌, nat_lt, if◌then◌else◌}
use Rattle.std.specs.Int.{IsInRange}

-- the digit for a number below 16: `0` to `9`, `A` to `F`
abbrev pub hex_digit : ℕ → ℕ
hex_digit d = if nat_lt d 10 then 48 + d else 55 + d

-- one of these 16 bytes
abbrev pub IsHexDigit : ℕ → Type 0
IsHexDigit c = IsInRange 48 57 c ⊎ IsInRange 65 70 c
