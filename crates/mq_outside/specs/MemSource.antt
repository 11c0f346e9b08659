-- The source in memory: pieces that are given one after another.
use Rattle.std.specs.Prelude.{◌≡◌, ◌<◌, ◌≤◌, ℕ, List, [], ◌∷◌, ◌++◌, length, take, drop, slice_index_or, Vec}
use Rattle.std.specs.List.{All, flat_map}
use Rattle.std.specs.declared.alloc.Global.{Global}

-- the pieces one after another
abbrev pub joined : List (Vec ℕ Global) → List ℕ
joined = flat_map (λ piece. piece.items)

-- the bytes before this place in this piece
abbrev pub bytes_before : List (Vec ℕ Global) → ℕ → ℕ → List ℕ
bytes_before pieces piece at = joined (take piece pieces) ++ take at (joined (drop piece pieces))

-- the bytes from this place in this piece on
abbrev pub bytes_from : List (Vec ℕ Global) → ℕ → ℕ → List ℕ
bytes_from pieces piece at = drop at (joined (drop piece pieces))

-- the bytes of the first piece, none where there is no piece
abbrev pub first_of : List (Vec ℕ Global) → List ℕ
first_of [] = []
first_of (piece ∷ pieces) = piece.items

-- what is left of this piece from this place on
abbrev pub rest_of_piece : List (Vec ℕ Global) → ℕ → ℕ → List ℕ
rest_of_piece pieces piece at = drop at (first_of (drop piece pieces))

-- the place lies inside its piece, or at the end behind the last one
pub record IsPlace (pieces : List (Vec ℕ Global)) (piece at : ℕ) : Type 0 where
  pub within : piece ≤ length pieces
  pub inside : (d : Vec ℕ Global) → piece < length pieces → at < length (slice_index_or pieces piece d).items
  pub at_end : piece ≡ length pieces → at ≡ 0

-- no piece is empty
abbrev pub HasNoEmptyPiece : List (Vec ℕ Global) → Type 0
HasNoEmptyPiece = All (λ piece. 0 < length piece.items)
