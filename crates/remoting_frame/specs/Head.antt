-- What a header says.
use Rattle.std.specs.Prelude.{ℕ, ◌+◌, ◌≤◌, List, [], ◌∷◌, length, ℤ, map}
use Rattle.std.specs.Ordering.{nat_cmp}
use Rattle.std.specs.Cmp.Lexicographic.{slice_cmp}
use Rattle.std.specs.List.Sorted.{IsStrictlySortedBy}

pub record Head : Type 0 where
  pub code : ℤ
  pub version : ℤ
  pub opaque : ℤ
  pub flag : ℤ
  pub remark : List ℕ
  pub ext : List (List ℕ × List ℕ)

-- distinct names in byte order
abbrev pub IsInOrder : List (List ℕ × List ℕ) → Type 0
IsInOrder pairs = IsStrictlySortedBy (slice_cmp nat_cmp) (map (λ p. p.0) pairs)

-- how many bytes the pairs have, where six are counted for the two lengths of each
abbrev pub pairs_size : List (List ℕ × List ℕ) → ℕ
pairs_size [] = 0
pairs_size (p ∷ pairs) = 6 + length p.0 + length p.1 + pairs_size pairs

-- the remark and the pairs have together at most 131,072 bytes
abbrev pub IsShort : Head → Type 0
IsShort h = length h.remark + pairs_size h.ext ≤ 131072
