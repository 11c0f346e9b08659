-- The links that have ended.
use Rattle.std.specs.Prelude.{ℕ, List}

-- a link that has ended: the number that it had, its peer, and what it gave and took
pub record LinkEnd : Type 0 where
  pub number : ℕ
  pub peer : List ℕ
  pub given : List ℕ
  pub taken : List ℕ

-- of this link, which had this number
abbrev pub end_of : {L : Type 0} → (L → List ℕ) → (L → List ℕ) → (L → List ℕ) → ℕ → L → LinkEnd
end_of peer given taken number link = record { number = number; peer = peer link; given = given link; taken = taken link }
