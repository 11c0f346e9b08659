-- Files as a list of names and bytes, and names in byte order.
use Rattle.std.specs.Prelude.{◌≡◌, ℕ, ◌+◌, List, [], ◌∷◌, length, map, Some, None, true, if◌then◌else◌}
use Rattle.std.specs.Str.{bytes_eq, is_utf8}
use Rattle.std.specs.Ordering.{nat_cmp}
use Rattle.std.specs.declared.cmp.Ordering.TheVariants.{Less}
use Rattle.std.specs.Cmp.Lexicographic.{slice_cmp}
use Rattle.std.specs.Coded.{×_prop, Unit-prop}
use Rattle.std.proofs.Props.{props}
use Rattle.mq_outside.specs.Files.{Files}

-- a file
pub record Named : Type 0 where
  pub name : List ℕ
  pub bytes : List ℕ

-- what the first file of a name has
abbrev pub content : List Named → Files
content [] name = None
content (file ∷ files) name = if bytes_eq file.name name then Some file.bytes else content files name

-- how many bytes the files have with their names
abbrev pub size_of : List Named → ℕ
size_of [] = 0
size_of (file ∷ files) = length file.name + length file.bytes + size_of files

-- the names of the files
abbrev pub names_of : List Named → List (List ℕ)
names_of = map (λ file. file.name)

-- one name stands before the other in byte order
abbrev pub IsBelow : List ℕ → List ℕ → Type 0
IsBelow a b = slice_cmp nat_cmp a b ≡ Less

-- the name stands before each of these
abbrev pub AreAbove : List ℕ → List (List ℕ) → Type 0
AreAbove name [] = Unit {0}
AreAbove name (first ∷ rest) = IsBelow name first × AreAbove name rest

-- each of these stands before the name
abbrev pub AreBelow : List (List ℕ) → List ℕ → Type 0
AreBelow [] name = Unit {0}
AreBelow (first ∷ rest) name = IsBelow first name × AreBelow rest name

-- each name stands before all later ones
abbrev pub IsAscending : List (List ℕ) → Type 0
IsAscending [] = Unit {0}
IsAscending (first ∷ rest) = AreAbove first rest × IsAscending rest

above-IsProp : (name : List ℕ) (names : List (List ℕ)) → IsProp (AreAbove name names)
above-IsProp name [] = Unit-prop
above-IsProp name (first ∷ rest) = ×_prop (hlevel props) (above-IsProp name rest)

pub ascending-IsProp : (names : List (List ℕ)) → IsProp (IsAscending names)
ascending-IsProp [] = Unit-prop
ascending-IsProp (first ∷ rest) = ×_prop (above-IsProp first rest) (ascending-IsProp rest)

-- each name is text
abbrev pub AreTexts : List (List ℕ) → Type 0
AreTexts [] = Unit {0}
AreTexts (first ∷ rest) = (is_utf8 first ≡ true) × AreTexts rest

pub texts-IsProp : (names : List (List ℕ)) → IsProp (AreTexts names)
texts-IsProp [] = Unit-prop
texts-IsProp (first ∷ rest) = ×_prop (hlevel props) (texts-IsProp rest)
