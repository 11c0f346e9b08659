-- The bytes of a header in binary form.
use Rattle.std.specs.Prelude.{ℕ, ℤ, ◌^◌, ◌<◌, ◌++◌, List, [], ◌∷◌, length, FitsSigned, All}
use Rattle.std.specs.Int.{w16, w32, to_be_bytes, cast_unsigned}
use Rattle.std.specs.List.{AllByRecursion}
use Rattle.std.specs.Str.{IsUtf8}
use Rattle.remoting_frame.specs.Head.{Head, pairs_size}

-- a text behind its length
unfoldable pub sized : List ℕ → List ℕ
sized text = to_be_bytes w32 (length text) ++ text

-- a name and a value, each behind its length
unfoldable pub pair_text : List ℕ × List ℕ → List ℕ
pair_text p = to_be_bytes w16 (length p.0) ++ p.0 ++ sized p.1

abbrev pub pairs_text : List (List ℕ × List ℕ) → List ℕ
pairs_text [] = []
pairs_text (p ∷ pairs) = pair_text p ++ pairs_text pairs

-- pairs behind their length
unfoldable pub sized_pairs : List (List ℕ × List ℕ) → List ℕ
sized_pairs pairs = to_be_bytes w32 (pairs_size pairs) ++ pairs_text pairs

-- the code, a byte for the language, the version, opaque and flag
unfoldable pub numbers_text : ℤ → ℕ → ℤ → ℤ → ℤ → List ℕ
numbers_text code language version opaque flag = to_be_bytes w16 (cast_unsigned w16 code) ++ language ∷ []
    ++ to_be_bytes w16 (cast_unsigned w16 version) ++ to_be_bytes w32 (cast_unsigned w32 opaque) ++ to_be_bytes w32 (cast_unsigned w32 flag)

-- a header with some language, and with these pairs for those of its own
unfoldable pub header_bytes : Head → ℕ → List (List ℕ × List ℕ) → List ℕ
header_bytes h language pairs = numbers_text h.code language h.version h.opaque h.flag ++ sized h.remark ++ sized_pairs pairs

-- what is written: the language OTHER, and the pairs in byte order
abbrev pub binary_text : Head → List ℕ
binary_text h = header_bytes h 7 h.ext

-- the code and the version have 16 signed bits
pub record Has16Bits (h : Head) : Type 0 where
  pub code : FitsSigned w16 h.code
  pub version : FitsSigned w16 h.version

-- the remark, and the pairs with their lengths, are below 2^31 bytes, and names below 65,536
pub record FitsLengths (h : Head) : Type 0 where
  pub remark : length h.remark < 2 ^ 31
  pub pairs : pairs_size h.ext < 2 ^ 31
  pub names : All (λ p. length p.0 < 2 ^ 16) h.ext

-- a pair that has a form on the wire
pub record FitsPair (p : List ℕ × List ℕ) : Type 0 where
  pub name : length p.0 < 2 ^ 16
  pub value : length p.1 < 2 ^ 31
  pub name_text : IsUtf8 p.0
  pub value_text : IsUtf8 p.1

abbrev pub IsPairOfTexts : List ℕ × List ℕ → Type 0
IsPairOfTexts p = IsUtf8 p.0 × IsUtf8 p.1

-- a header's texts are UTF-8
pub record AreTexts (h : Head) : Type 0 where
  pub remark : IsUtf8 h.remark
  pub pairs : AllByRecursion IsPairOfTexts h.ext
