-- The one layout of a record, and which records have one.
use Rattle.std.specs.Prelude.{◌≡◌, ℕ, ◌+◌, ◌/◌, ◌%◌, ◌^◌, ◌<◌, ◌==◌, ◌++◌, List, [], ◌∷◌, length, codes}
use Rattle.std.specs.Prelude.{FitsSigned, Bool, true, not, ◌&&◌, ◌||◌, nat_lt, nat_le, bit_and}
use Rattle.std.specs.Int.{Width, w16, w32, w64, cast_unsigned, to_be_bytes, from_be_bytes}
use Rattle.std.specs.Str.{is_utf8}
use Rattle.mq_bytes.specs.Bytes.{AreBytes}
use Rattle.mq_bytes.specs.Crc.{crc_of}
use Rattle.mq_bytes.specs.Hex.{hex_digit}
use Rattle.record_codec.specs.Entry.{Entry}
use Rattle.record_codec.specs.Props.{written, are_pairs, has_name, are_distinct}

abbrev pub magic : ℕ
magic = 0xDAA3_20A7

-- the sum of a body, without its highest bit
abbrev pub body_crc : List ℕ → ℕ
body_crc body = crc_of body % 2 ^ 31

-- how many bytes a record has: 91, its body, its topic, its properties, and 14 of the seal
abbrev pub size : Entry → ℕ
size r = 105 + length r.body + length r.topic + length (written r.props)

-- numbers one after another, the high byte first
abbrev pub numbers_text : List Width → List ℕ → List ℕ
numbers_text [] ns = []
numbers_text (w ∷ ws) [] = []
numbers_text (w ∷ ws) (n ∷ ns) = to_be_bytes w n ++ numbers_text ws ns

-- the widths of the numbers before the body, 88 bytes in all
abbrev pub fixed : List Width
fixed = w32 ∷ w32 ∷ w32 ∷ w32 ∷ w32 ∷ w64 ∷ w64 ∷ w32 ∷ w64 ∷ w64 ∷ w64 ∷ w64 ∷ w32 ∷ w64 ∷ w32 ∷ []

-- the numbers before the body; a host is the number that its eight bytes spell
abbrev pub numbers : Entry → List ℕ
numbers r =
    size r ∷ magic ∷ body_crc r.body ∷ r.queue ∷ cast_unsigned w32 r.flag ∷ r.queue_offset ∷ r.offset ∷ r.sysflag
    ∷ r.born ∷ from_be_bytes w64 r.born_host ∷ r.store ∷ from_be_bytes w64 r.store_host ∷ cast_unsigned w32 r.reconsume ∷ r.prepared
    ∷ length r.body ∷ []

-- eight upper-case hexadecimal digits
unfoldable pub digits : ℕ → List ℕ
digits n = hex_digit (n / 2 ^ 28 % 16) ∷ hex_digit (n / 2 ^ 24 % 16) ∷ hex_digit (n / 2 ^ 20 % 16) ∷ hex_digit (n / 2 ^ 16 % 16)
    ∷ hex_digit (n / 2 ^ 12 % 16) ∷ hex_digit (n / 2 ^ 8 % 16) ∷ hex_digit (n / 2 ^ 4 % 16) ∷ hex_digit (n % 16) ∷ []

-- the seal's name and its byte 1
abbrev pub seal_name : List ℕ
seal_name = 83 ∷ 69 ∷ 65 ∷ 76 ∷ 1 ∷ []

-- what the sum takes in the place of the eight digits, each of them 0, and the byte 2 behind them
abbrev pub unsealed : List ℕ
unsealed = 48 ∷ 48 ∷ 48 ∷ 48 ∷ 48 ∷ 48 ∷ 48 ∷ 48 ∷ 2 ∷ []

-- all before the digits of the seal
unfoldable pub front : Entry → List ℕ
front r = numbers_text fixed (numbers r) ++ (r.body
    ++ (length r.topic ∷ (r.topic ++ (to_be_bytes w16 (length (written r.props) + 14) ++ (written r.props ++ seal_name)))))

-- with the digits of the sum of the whole record, in which these digits are 0
unfoldable pub sealed : List ℕ → List ℕ
sealed before = before ++ (digits (crc_of (before ++ unsealed)) ++ 2 ∷ [])

-- the bytes of a record
abbrev pub layout : Entry → List ℕ
layout r = sealed (front r)

-- ---- which records have a layout

-- `%`, `|`, `_`, `-`, digits and letters
abbrev pub is_topic_char : ℕ → Bool
is_topic_char b = (b == 37) || (b == 124) || (b == 95) || (b == 45) || (nat_le 48 b && nat_le b 57) || (nat_le 65 b && nat_le b 90)
    || (nat_le 97 b && nat_le b 122)

-- each byte is one of these characters
abbrev pub all_topic_chars : List ℕ → Bool
all_topic_chars [] = true
all_topic_chars (b ∷ bytes) = is_topic_char b && all_topic_chars bytes

-- a topic that isn't empty, of such characters
abbrev pub is_named : List ℕ → Bool
is_named topic = nat_lt 0 (length topic) && all_topic_chars topic

-- a topic has 1 to 127 characters
abbrev pub is_legal : List ℕ → Bool
is_legal topic = is_named topic && nat_lt (length topic) 128

-- neither host has six bytes more, as the flags 16 and 32 would say
abbrev pub are_hosts_short : ℕ → Bool
are_hosts_short sysflag = bit_and sysflag 48 == 0

-- each number is below 2^62
abbrev pub are_low : List ℕ → Bool
are_low [] = true
are_low (n ∷ ns) = nat_lt n (2 ^ 62) && are_low ns

-- the texts, flags, offsets and times that a record may have
unfoldable pub is_entry : Entry → Bool
is_entry r =
    is_legal r.topic && are_hosts_short r.sysflag && are_low (r.queue_offset ∷ r.offset ∷ r.born ∷ r.store ∷ r.prepared ∷ [])
    && are_pairs r.props && are_distinct r.props && not (has_name (codes "SEAL") r.props) && is_utf8 (written r.props)

abbrev pub IsHost : List ℕ → Type 0
IsHost host = (length host ≡ 8) × AreBytes host

-- the records that have a layout
pub record IsRecord (r : Entry) : Type 0 where
  pub entry : is_entry r ≡ true
  pub queue : r.queue < 2 ^ 32
  pub flag : FitsSigned w32 r.flag
  pub sysflag : r.sysflag < 2 ^ 32
  pub reconsume : FitsSigned w32 r.reconsume
  pub born_host : IsHost r.born_host
  pub store_host : IsHost r.store_host
  pub body : AreBytes r.body
  pub props : length (written r.props) + 14 < 2 ^ 16
  pub size : size r < 2 ^ 32
