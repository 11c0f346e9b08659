-- The hashes of tags and keys.
use Rattle.std.specs.Prelude.{ℕ, ◌%◌, ◌^◌, ◌==◌, List, ℤ, unsigned_abs, if◌then◌else◌}
use Rattle.std.specs.List.{flat_map}
use Rattle.std.specs.Int.{w32, cast_signed}
use Rattle.std.specs.Int.Digits.{number_from_digits}
use Rattle.std.specs.Char.Escape.{encode_utf16}
use Rattle.std.specs.Str.{chars}

-- the text's UTF-16 units
abbrev pub utf16_units : List ℕ → List ℕ
utf16_units text = flat_map encode_utf16 (chars text)

-- u0 * 31^(n-1) + u1 * 31^(n-2) + .. + u(n-1) over the text's UTF-16 units, its low 32 bits as a signed number
unfoldable pub java_hash : List ℕ → ℤ
java_hash text = cast_signed w32 (number_from_digits 31 (utf16_units text) % 2 ^ 32)

-- the absolute value, and 0 for -2^31, whose absolute value is beyond 32 signed bits
abbrev pub absolute : ℤ → ℕ
absolute hash = if unsigned_abs hash == 2 ^ 31 then 0 else unsigned_abs hash

-- the absolute value of its hash
unfoldable pub key_hash : List ℕ → ℕ
key_hash text = absolute (java_hash text)
