-- What contracts see of what is kept of a half message besides the row of its table.
use Rattle.std.specs.Prelude.{◌≡◌, ℕ, List, [], ◌∷◌, ◌++◌, length, slice_get, Option, Some}
use Rattle.record_codec.specs.Entry.{Entry}

-- the number of its producer group, its id, the members of its family that are kept whole, and for how many more there is room
pub record KeptRow : Type 0 where
  pub group : ℕ
  pub id : Option (List ℕ)
  pub family : List Entry
  pub spare : ℕ

-- the same with this much room
abbrev pub with_room : KeptRow → ℕ → KeptRow
with_room x spare = record x { spare = spare }

-- with one member more, and then this much room
abbrev pub with_member : KeptRow → Entry → ℕ → KeptRow
with_member x r spare = record x { family = x.family ++ r ∷ []; spare = spare }

-- without its family
abbrev pub without_family : KeptRow → ℕ → KeptRow
without_family x spare = record x { family = []; spare = spare }

-- the same half message, of which this family is kept
pub record IsKeptWith (members : List Entry) (x y : KeptRow) : Type 0 where
  pub group : y.group ≡ x.group
  pub id : y.id ≡ x.id
  pub family : y.family ≡ members

-- The half messages are the same; of the one at an index the family that is kept is this one, which may go by the one before.
pub record AreKeptWith (families : ℕ → List Entry → List Entry) (old new : List KeptRow) : Type 0 where
  pub long : length new ≡ length old
  pub each : (k : ℕ) (x : KeptRow) → slice_get old k ≡ Some x
      → (y : KeptRow) × (slice_get new k ≡ Some y) × IsKeptWith (families k x.family) x y
