-- The header that a JSON text is. The definition is over the value that `serde_json` reads, in which a repeated name has its last value
-- only.
use Rattle.std.specs.Prelude.{ℕ, ◌^◌, ◌++◌, ◌∷◌, [], List, ℤ, pos, negsuc, Bool, nat_lt}
use Rattle.std.specs.Prelude.{codes, Option, Some, None, if◌then◌else◌, option_and_then, option_map}
use Rattle.std.specs.Str.{is_utf8}
use Rattle.serde_json.specs.Data.{Data, null, boolean, number, string, array, object, Members, no_members, member}
use Rattle.serde_json.specs.Read.{read}
use Rattle.serde_json.specs.Find.{get, as_number, as_i64}
use Rattle.mq_bytes.specs.Decimal.{decimal}
use Rattle.remoting_frame.specs.Gives.{◌>>=◌}
use Rattle.remoting_frame.specs.Head.{Head}

-- a whole number of 32 bits
abbrev pub is_i32 : ℤ → Bool
is_i32 (pos n) = nat_lt n (2 ^ 31)
is_i32 (negsuc n) = nat_lt n (2 ^ 31)

abbrev pub in_i32 : ℤ → Option ℤ
in_i32 z = if is_i32 z then Some z else None

-- A number that is written with a point or an exponent, and -0, is no whole number.
unfoldable pub whole : Data → Option ℤ
whole d = option_and_then in_i32 (option_and_then as_i64 (as_number d))

abbrev pub whole_or_zero : Option Data → Option ℤ
whole_or_zero None = Some (pos 0)
whole_or_zero (Some d) = whole d

-- the text, empty where there is none or null
abbrev pub text_or_empty : Option Data → Option (List ℕ)
text_or_empty None = Some []
text_or_empty (Some null) = Some []
text_or_empty (Some (string s)) = Some s
text_or_empty (Some (boolean b)) = None
text_or_empty (Some (number n)) = None
text_or_empty (Some (array ds)) = None
text_or_empty (Some (object ms)) = None

abbrev pub word_of : Bool → List ℕ
word_of b = if b then codes "true" else codes "false"

-- A name with its text. A whole number of 64 signed bits stands for its digits, and a truth value for its word: clients that
-- don't write in Java send both. With null there is nothing.
abbrev pub pair_of : List ℕ → Data → Option (List (List ℕ × List ℕ))
pair_of k null = Some []
pair_of k (string s) = Some ((k, s) ∷ [])
pair_of k (boolean b) = Some ((k, word_of b) ∷ [])
pair_of k (number n) = option_map (λ z. (k, decimal z) ∷ []) (as_i64 n)
pair_of k (array ds) = None
pair_of k (object ms) = None

abbrev pub pairs_of : Members → Option (List (List ℕ × List ℕ))
pairs_of no_members = Some []
pairs_of (member k d ms) = pair_of k d >>= λ first. pairs_of ms >>= λ others. Some (first ++ others)

abbrev pub pairs_or_none : Option Data → Option (List (List ℕ × List ℕ))
pairs_or_none None = Some []
pairs_or_none (Some null) = Some []
pairs_or_none (Some (object ms)) = pairs_of ms
pairs_or_none (Some (string s)) = None
pairs_or_none (Some (boolean b)) = None
pairs_or_none (Some (number n)) = None
pairs_or_none (Some (array ds)) = None

-- the header that the data is: what is no object has no code
unfoldable pub header_of : Data → Option Head
header_of d = do
  code ← option_and_then whole (get (codes "code") d)
  opaque ← option_and_then whole (get (codes "opaque") d)
  flag ← whole_or_zero (get (codes "flag") d)
  version ← whole_or_zero (get (codes "version") d)
  remark ← text_or_empty (get (codes "remark") d)
  ext ← pairs_or_none (get (codes "extFields") d)
  Some (record { code = code; version = version; opaque = opaque; flag = flag; remark = remark; ext = ext })

-- the value that the bytes are
unfoldable pub data_of : List ℕ → Option Data
data_of bytes = if is_utf8 bytes then read bytes else None

abbrev pub json_header : List ℕ → Option Head
json_header bytes = option_and_then header_of (data_of bytes)
