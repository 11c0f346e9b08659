-- The id of a message: the host that stored it, and where it stands in the log.
use Rattle.std.specs.Prelude.{◌≡◌, ℕ, ◌/◌, ◌%◌, List, [], ◌∷◌, ◌++◌, length, All}
use Rattle.std.specs.Int.{w64, to_be_bytes}
use Rattle.mq_bytes.specs.Hex.{hex_digit, IsHexDigit}

-- two upper-case hexadecimal digits for each byte
abbrev pub hex_of : List ℕ → List ℕ
hex_of [] = []
hex_of (b ∷ bytes) = hex_digit (b / 16) ∷ hex_digit (b % 16) ∷ hex_of bytes

-- the digits of the host's bytes and of the place, its high byte first
unfoldable pub message_id_of : List ℕ → ℕ → List ℕ
message_id_of host place = hex_of (host ++ to_be_bytes w64 place)

-- 32 upper-case hexadecimal digits
abbrev pub IsMessageId : List ℕ → Type 0
IsMessageId text = (length text ≡ 32) × All IsHexDigit text
