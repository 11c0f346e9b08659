-- Reading the properties of a request, whose text need not be in written form.
use Rattle.std.specs.Prelude.{◌≡◌, ℕ, ◌==◌, List, [], ◌∷◌, unwrap_or, if◌then◌else◌}
use Rattle.std.specs.Borrow.{Bor}
use Rattle.std.specs.BTreeMap.{BTreeMap, get_by}
use Rattle.std.specs.Cmp.Lexicographic.{slice_cmp}
use Rattle.std.specs.Ordering.{nat_cmp}
use Rattle.std.specs.List.{filter_map}
use Rattle.record_codec.specs.Props.{with_prop, place_in, until, pair_in}

-- one more byte in front of the first piece
abbrev pub in_front : ℕ → List (List ℕ) → List (List ℕ)
in_front b [] = (b ∷ []) ∷ []
in_front b (piece ∷ pieces) = (b ∷ piece) ∷ pieces

-- the pieces of a text between bytes x
unfoldable pub pieces : ℕ → List ℕ → List (List ℕ)
pieces x [] = [] ∷ []
pieces x (b ∷ text) = if b == x then [] ∷ pieces x text else in_front b (pieces x text)

-- the piece before the first byte 2, and what stands behind it
abbrev pub first_piece : List ℕ → List ℕ × List ℕ
first_piece text = unwrap_or (until 2 text) (text, [])

-- with these pairs, one after another
abbrev pub with_all : List (List ℕ × List ℕ) → List (List ℕ × List ℕ) → List (List ℕ × List ℕ)
with_all ps [] = ps
with_all ps (p ∷ more) = with_all (with_prop p.0 p.1 ps) more

-- the properties of a text: of its pieces between bytes 2 those that are a name that isn't empty, one byte 1 and a value;
-- a repeated name keeps its first place and its last value
unfoldable pub read_props : List ℕ → List (List ℕ × List ℕ)
read_props text = with_all [] (filter_map pair_in (pieces 2 text))

-- the map has the place of each name among these properties, and no other name
abbrev pub ArePlacesIn : List (List ℕ × List ℕ) → BTreeMap (Bor (List ℕ)) ℕ → Type 0
ArePlacesIn ps places = (name : List ℕ) → get_by (λ k. slice_cmp nat_cmp name k.now) places ≡ place_in name ps
