-- Properties: names and values, and the form in which they are written, name, byte 1, value, byte 2 for each.
use Rattle.std.specs.Prelude.{◌≡◌, ℕ, zero, suc, ◌+◌, ◌==◌, ◌++◌, List, [], ◌∷◌, length, filter, Bool, true, false, ◌&&◌}
use Rattle.std.specs.Prelude.{◌||◌, not, nat_lt, Option, Some, None, option_map, option_and_then, if◌then◌else◌}
use Rattle.std.specs.Str.{is_utf8, bytes_eq}

-- name, byte 1, value, byte 2
abbrev pub pair_text : List ℕ × List ℕ → List ℕ
pair_text p = p.0 ++ 1 ∷ (p.1 ++ 2 ∷ [])

-- the pairs, one after another
abbrev pub written : List (List ℕ × List ℕ) → List ℕ
written [] = []
written (p ∷ ps) = pair_text p ++ written ps

-- no byte is x
abbrev pub lacks : ℕ → List ℕ → Bool
lacks x [] = true
lacks x (b ∷ bytes) = not (b == x) && lacks x bytes

-- a pair that can be written: its name isn't empty, and neither text has a byte 1 or 2
abbrev pub is_pair : List ℕ × List ℕ → Bool
is_pair p = nat_lt 0 (length p.0) && lacks 1 p.0 && lacks 2 p.0 && lacks 1 p.1 && lacks 2 p.1

abbrev pub are_pairs : List (List ℕ × List ℕ) → Bool
are_pairs [] = true
are_pairs (p ∷ ps) = is_pair p && are_pairs ps

-- a pair has this name
abbrev pub has_name : List ℕ → List (List ℕ × List ℕ) → Bool
has_name name [] = false
has_name name (p ∷ ps) = bytes_eq name p.0 || has_name name ps

-- the value of the first pair of this name
abbrev pub value_of : List ℕ → List (List ℕ × List ℕ) → Option (List ℕ)
value_of name [] = None
value_of name (p ∷ ps) = if bytes_eq name p.0 then Some p.1 else value_of name ps

-- the place of the first pair of this name
abbrev pub place_in : List ℕ → List (List ℕ × List ℕ) → Option ℕ
place_in name [] = None
place_in name (p ∷ ps) = if bytes_eq name p.0 then Some 0 else option_map (λ k. k + 1) (place_in name ps)

-- with this value for this name: in the place of the pair that has the name, or else at the end
abbrev pub with_prop : List ℕ → List ℕ → List (List ℕ × List ℕ) → List (List ℕ × List ℕ)
with_prop name value [] = (name, value) ∷ []
with_prop name value (p ∷ ps) = if bytes_eq name p.0 then (p.0, value) ∷ ps else p ∷ with_prop name value ps

-- without the pair of this name
abbrev pub without : List ℕ → List (List ℕ × List ℕ) → List (List ℕ × List ℕ)
without name ps = filter (λ p. not (bytes_eq name p.0)) ps

-- no two pairs have one name
abbrev pub are_distinct : List (List ℕ × List ℕ) → Bool
are_distinct [] = true
are_distinct (p ∷ ps) = not (has_name p.0 ps) && are_distinct ps

-- what a list of properties always is
pub record AreProps (ps : List (List ℕ × List ℕ)) : Type 0 where
  pub pairs : are_pairs ps ≡ true
  pub distinct : are_distinct ps ≡ true
  pub utf8 : is_utf8 (written ps) ≡ true

-- ---- reading the written form strictly

-- what stands before the first x, and what behind it
unfoldable pub until : ℕ → List ℕ → Option (List ℕ × List ℕ)
until x [] = None
until x (b ∷ bytes) = if b == x then Some ([], bytes) else option_map (λ p. (b ∷ p.0, p.1)) (until x bytes)

-- a name and a value that can be written
unfoldable pub pair_in : List ℕ → Option (List ℕ × List ℕ)
pair_in piece = option_and_then (λ p. if is_pair p then Some p else None) (until 1 piece)

-- at most n pairs
unfoldable pub pairs_in : ℕ → List ℕ → Option (List (List ℕ × List ℕ))
pairs_in n [] = Some []
pairs_in zero (b ∷ bytes) = None
pairs_in (suc n) (b ∷ bytes) = option_and_then (λ piece. option_and_then (λ p. option_map (λ ps. p
    ∷ ps) (pairs_in n piece.1)) (pair_in piece.0)) (until 2 (b ∷ bytes))

-- the pair in front, and the rest
unfoldable pub next_pair : List ℕ → Option (List ℕ × List ℕ × List ℕ)
next_pair text = option_and_then (λ piece. option_map (λ p. (p.0, p.1, piece.1)) (pair_in piece.0)) (until 2 text)

-- the same, of a text that is known to be in written form
unfoldable pub next_written : List ℕ → Option (List ℕ × List ℕ × List ℕ)
next_written text = option_and_then (λ a. option_map (λ b. (a.0, b.0, b.1)) (until 2 a.1)) (until 1 text)

-- a text in written form of a list of properties
abbrev pub IsWritten : List ℕ → Type 0
IsWritten text = (ps : List (List ℕ × List ℕ)) × (pairs_in (length text) text ≡ Some ps) × AreProps ps
