-- Frozen pieces in the order of the log: which ranges they have, and which bytes they hold there. A range is n bytes at a
-- place, counted over the whole log.
use Rattle.std.specs.Prelude.{◌≡◌, ◌⊎◌, ℕ, ◌+◌, ◌-◌, ◌≤◌, List, [], ◌∷◌, ◌++◌, length, None}
use Rattle.std.specs.Coded.{×_prop, le_prop}
use Rattle.mq_outside.specs.declared.frozen.Frozen.{Frozen}
use Rattle.mq_outside.specs.Readings.{HasAt}

-- where a piece begins in the log
abbrev pub piece_start : Frozen → ℕ
piece_start p = p.base + p.from

-- where it ends
abbrev pub piece_end : Frozen → ℕ
piece_end p = p.base + p.from + p.len

-- the piece has this range
pub record Covers (p : Frozen) (place n : ℕ) : Type 0 where
  pub from : piece_start p ≤ place
  pub to : place + n ≤ piece_end p

-- the pieces stand one behind another between these two places
abbrev pub AreOrdered : ℕ → List Frozen → ℕ → Type 0
AreOrdered low [] high = low ≤ high
AreOrdered low (p ∷ pieces) high = (low ≤ piece_start p) × AreOrdered (piece_end p) pieces high

pub AreOrdered-prop : (low : ℕ) (pieces : List Frozen) (high : ℕ) → IsProp (AreOrdered low pieces high)
AreOrdered-prop low [] high = le_prop
AreOrdered-prop low (p ∷ pieces) high = ×_prop le_prop (AreOrdered-prop (piece_end p) pieces high)

-- some piece has this range
abbrev pub HasRange : List Frozen → ℕ → ℕ → Type 0
HasRange [] place n = ⊥
HasRange (p ∷ pieces) place n = Covers p place n ⊎ HasRange pieces place n

-- if the piece has the range of these bytes, a piece that holds bytes has these there
abbrev pub PieceHolds : Frozen → ℕ → List ℕ → Type 0
PieceHolds p place bytes = Covers p place (length bytes) → HasAt p.held (place - piece_start p) bytes

-- so does each piece
abbrev pub HoldsRange : List Frozen → ℕ → List ℕ → Type 0
HoldsRange [] place bytes = Unit {0}
HoldsRange (p ∷ pieces) place bytes = PieceHolds p place bytes × HoldsRange pieces place bytes

-- two pieces that hold nothing and meet, as one
pub record IsJoined (first next joined : Frozen) : Type 0 where
  pub base : joined.base ≡ first.base
  pub from : joined.from ≡ first.from
  pub len : joined.len ≡ first.len + next.len
  pub none : joined.held ≡ None
  pub meets : piece_start next ≡ piece_end first

-- the last of the old pieces was joined with this one
pub record HasJoined (old : List Frozen) (piece : Frozen) (new : List Frozen) : Type 0 where
  pub rest : List Frozen
  pub last : Frozen
  pub joined : Frozen
  pub was : old ≡ rest ++ last ∷ []
  pub is : new ≡ rest ++ joined ∷ []
  pub are_one : IsJoined last piece joined

-- the piece came behind the old ones, or was joined with their last
abbrev pub IsAdded : List Frozen → Frozen → List Frozen → Type 0
IsAdded old piece new = (new ≡ old ++ piece ∷ []) ⊎ HasJoined old piece new
