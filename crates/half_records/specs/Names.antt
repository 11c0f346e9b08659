-- The numbers of names.
use Rattle.std.specs.Prelude.{◌≡◌, ℕ, ◌<◌, ◌==◌, List, Option, Some, None, Bool, false}
use Rattle.indexmap.specs.IndexMap.{get_by_text, index_map_len}
use Rattle.half_records.specs.declared.names.Names.{Names}

-- the number of a name
abbrev pub number_of : Names → List ℕ → Option ℕ
number_of names name = get_by_text names.numbers name

-- it is this one
abbrev pub is_number : ℕ → Option ℕ → Bool
is_number n None = false
is_number n (Some m) = m == n

-- Two names with one number are one name. The next number is how many names there are.
pub record AreApart (names : Names) : Type 0 where
  pub apart : (a b : List ℕ) (n : ℕ) → number_of names a ≡ Some n → number_of names b ≡ Some n → a ≡ b
  pub low : (a : List ℕ) (n : ℕ) → number_of names a ≡ Some n → n < index_map_len names.numbers

-- each name keeps its number
abbrev pub KeepsNumbers : Names → Names → Type 0
KeepsNumbers old new = (name : List ℕ) (n : ℕ) → number_of old name ≡ Some n → number_of new name ≡ Some n
