-- What reads of a piece give.
use Rattle.std.specs.Prelude.{◌≡◌, ℕ, ◌+◌, ◌≤◌, List, length, take, drop, Option, Some, None, IfSome}
use Rattle.mq_outside.specs.declared.frozen.Frozen.{Frozen}

-- where bytes are held, these are the ones from this offset on
abbrev pub HasAt : Option (List ℕ) → ℕ → List ℕ → Type 0
HasAt held at bytes = IfSome held (λ all. bytes ≡ take (length bytes) (drop at all))

-- both hold bytes, and the same n at this offset, or neither holds any
abbrev pub HasSame : Option (List ℕ) → Option (List ℕ) → ℕ → ℕ → Type 0
HasSame None None at n = Unit {0}
HasSame None (Some next) at n = ⊥
HasSame (Some first) None at n = ⊥
HasSame (Some first) (Some next) at n = take n (drop at next) ≡ take n (drop at first)

-- the two are the same range of the same log file, and alike in the n bytes at this offset
pub record IsSamePart (first next : Frozen) (at n : ℕ) : Type 0 where
  pub base : next.base ≡ first.base
  pub from : next.from ≡ first.from
  pub len : next.len ≡ first.len
  pub same : HasSame first.held next.held at n

-- a relation of a piece, an offset in it, and the bytes that a read gives there
abbrev pub Giving : Type 1
Giving = Frozen → ℕ → List ℕ → Type 0

-- what is given of a piece that holds bytes are these
abbrev pub GivesHeld : Giving → Type 0
GivesHeld gives = (piece : Frozen) (at : ℕ) (bytes : List ℕ) → gives piece at bytes → HasAt piece.held at bytes

-- of what is given each of two parts is given
abbrev pub GivesParts : Giving → Type 0
GivesParts gives = (piece : Frozen) (at n : ℕ) (bytes : List ℕ) → n ≤ length bytes → gives piece at bytes → gives piece at (take n bytes)
    × gives piece (at + n) (drop n bytes)

-- pieces that are alike give the same
abbrev pub GivesAlike : Giving → Type 0
GivesAlike gives = (first next : Frozen) (at : ℕ) (bytes : List ℕ) → IsSamePart first next at (length bytes) → gives first at bytes
    → gives next at bytes
