-- Reading a record, in the order of the code.
use Rattle.std.specs.Prelude.{ℕ, ◌+◌, ◌-◌, ◌==◌, ◌++◌, List, [], ◌∷◌, length, take, drop, slice_index, Bool}
use Rattle.std.specs.Prelude.{◌&&◌, ◌||◌, nat_lt, Option, Some, None, option_and_then, if◌then◌else◌}
use Rattle.std.specs.Int.{w16, w32, w64, from_be_bytes, cast_signed}
use Rattle.std.specs.Str.{bytes_eq}
use Rattle.mq_bytes.specs.Crc.{crc_of}
use Rattle.record_codec.specs.Entry.{Entry}
use Rattle.record_codec.specs.Props.{pairs_in}
use Rattle.record_codec.specs.Layout.{magic, body_crc, seal_name, unsealed, digits, is_entry}

infixl 10 ◌>>=◌
abbrev pub ◌>>=◌ : {A B : Type 0} → Option A → (A → Option B) → Option B
o >>= f = option_and_then f o

abbrev pub n16 : List ℕ → ℕ → ℕ
n16 b at = from_be_bytes w16 (take 2 (drop at b))

abbrev pub n32 : List ℕ → ℕ → ℕ
n32 b at = from_be_bytes w32 (take 4 (drop at b))

abbrev pub n64 : List ℕ → ℕ → ℕ
n64 b at = from_be_bytes w64 (take 8 (drop at b))

-- the lengths of the body, of the topic, and of the properties without the seal
pub record Lengths : Type 0 where
  pub body : ℕ
  pub topic : ℕ
  pub props : ℕ

abbrev pub end_of : Lengths → ℕ
end_of l = 105 + l.body + l.topic + l.props

unfoldable pub lengths_past_topic : List ℕ → ℕ → ℕ → ℕ → Option Lengths
lengths_past_topic b size body topic =
    if 91 + body + topic + n16 b (89 + body + topic) == size
    then Some (record { body = body; topic = topic; props = size - (105 + body + topic) }) else None

unfoldable pub lengths_past_body : List ℕ → ℕ → ℕ → Option Lengths
lengths_past_body b size body =
    if nat_lt (size - 105 - body) (slice_index b (88 + body)) then None else lengths_past_topic b size body (slice_index b (88 + body))

unfoldable pub lengths_past_size : List ℕ → ℕ → Option Lengths
lengths_past_size b size =
    if nat_lt size 105 || nat_lt (length b) size then None
    else (if nat_lt (size - 105) (n32 b 84) then None else lengths_past_body b size (n32 b 84))

unfoldable pub lengths_in : List ℕ → Option Lengths
lengths_in b = if nat_lt (length b) 4 then None else lengths_past_size b (n32 b 0)

abbrev pub entry_in : List ℕ → Lengths → List (List ℕ × List ℕ) → Entry
entry_in b l ps = record {
  topic = take l.topic (drop (89 + l.body) b);
  queue = n32 b 12;
  flag = cast_signed w32 (n32 b 16);
  sysflag = n32 b 36;
  born = n64 b 40;
  born_host = take 8 (drop 48 b);
  store_host = take 8 (drop 64 b);
  reconsume = cast_signed w32 (n32 b 72);
  prepared = n64 b 76;
  body = take l.body (drop 88 b);
  props = ps;
  queue_offset = n64 b 20;
  offset = n64 b 28;
  store = n64 b 56;
}

-- the magic, both sums, and the seal's own spelling
unfoldable pub is_spelled : List ℕ → Lengths → Bool
is_spelled b l =
    (n32 b 4 == magic) && (n32 b 8 == body_crc (take l.body (drop 88 b)))
    && bytes_eq (take 5 (drop (91 + l.body + l.topic + l.props) b)) seal_name
    && bytes_eq (take 9 (drop (96 + l.body + l.topic + l.props) b)) (digits (crc_of (take (96 + l.body + l.topic + l.props) b ++ unsealed))
    ++ 2 ∷ [])

unfoldable pub entry_at : List ℕ → Lengths → List (List ℕ × List ℕ) → Option Entry
entry_at b l ps = if is_entry (entry_in b l ps) && is_spelled b l then Some (entry_in b l ps) else None

unfoldable pub parsed : List ℕ → Option Entry
parsed b = do
  l ← lengths_in b
  ps ← pairs_in l.props (take l.props (drop (91 + l.body + l.topic) b))
  entry_at b l ps
