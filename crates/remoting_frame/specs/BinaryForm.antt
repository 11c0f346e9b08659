-- When bytes are a header in binary form, said of the bytes as a whole.
use Rattle.std.specs.Prelude.{◌≡◌, ℕ, ◌^◌, ◌<◌, List, [], ◌∷◌, length, FitsSigned, Bool, Option, Some, None, is_some, if◌then◌else◌}
use Rattle.std.specs.Ordering.{nat_cmp, is_eq}
use Rattle.std.specs.Cmp.Lexicographic.{slice_cmp}
use Rattle.std.specs.Int.{w32}
use Rattle.std.specs.List.{AllByRecursion}
use Rattle.std.specs.Str.{IsUtf8}
use Rattle.remoting_frame.specs.Head.{Head, pairs_size}
use Rattle.remoting_frame.specs.Binary.{by_name}
use Rattle.remoting_frame.specs.BinaryText.{header_bytes, FitsPair, Has16Bits}

-- The bytes are the header's fields in their places with some byte for the language, and behind them pairs, of which
-- each name's last makes the header's.
pub record IsBinary (bytes : List ℕ) (h : Head) : Type 0 where
  pub language : ℕ
  pub pairs : List (List ℕ × List ℕ)
  pub spelled : bytes ≡ header_bytes h language pairs
  pub last : h.ext ≡ by_name pairs
  pub bits : Has16Bits h
  pub opaque : FitsSigned w32 h.opaque
  pub flag : FitsSigned w32 h.flag
  pub remark : length h.remark < 2 ^ 31
  pub remark_text : IsUtf8 h.remark
  pub size : pairs_size pairs < 2 ^ 31
  pub each : AllByRecursion FitsPair pairs

-- ---- which pairs a list of pairs makes

abbrev pub has_name : List ℕ → List ℕ × List ℕ → Bool
has_name name p = is_eq (slice_cmp nat_cmp name p.0)

-- the value of the name's first pair
abbrev pub value_of : List ℕ → List (List ℕ × List ℕ) → Option (List ℕ)
value_of name [] = None
value_of name (p ∷ pairs) = if has_name name p then Some p.1 else value_of name pairs

-- the value of the name's last pair
abbrev pub last_value : List ℕ → List (List ℕ × List ℕ) → Option (List ℕ)
last_value name [] = None
last_value name (p ∷ pairs) = if is_some (last_value name pairs) then last_value name pairs
    else (if has_name name p then Some p.1 else None)
