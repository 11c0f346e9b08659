-- Slices that one read of a stored piece gives.
use Rattle.std.specs.Prelude.{◌≡◌, ℕ, ◌+◌, List, [], ◌∷◌}
use Rattle.mq_outside.specs.Readings.{IsSamePart}
use Rattle.reply_fields.specs.declared.slice.StoredRange.{StoredRange}
use Rattle.reply_fields.specs.declared.slice.Slice.{Slice}
use Rattle.reply_fields.specs.declared.slice.Slice.TheVariants.{Held, Kept}
use Rattle.reply_fields.specs.Slices.{slice_len}

-- the next range begins where so many bytes from the first range's start end, and is one of the same piece
pub record Adjoins (first : StoredRange) (len : ℕ) (next : StoredRange) : Type 0 where
  pub at : next.at ≡ first.at + len
  pub piece : IsSamePart first.piece next.piece next.at next.len

abbrev pub GoesOn : StoredRange → ℕ → Slice → Type 0
GoesOn first len (Held bytes) = ⊥
GoesOn first len (Kept next) = Adjoins first len next

-- the slices are ranges that adjoin one another, the first of them after so many bytes from the first range's start
abbrev pub GoOn : StoredRange → ℕ → List Slice → Type 0
GoOn first len [] = Unit {0}
GoOn first len (slice ∷ slices) = GoesOn first len slice × GoOn first (len + slice_len slice) slices

-- held bytes alone, or ranges that adjoin
abbrev pub IsStretch : List Slice → Type 0
IsStretch [] = ⊥
IsStretch (Held bytes ∷ slices) = slices ≡ []
IsStretch (Kept range ∷ slices) = GoOn range range.len slices
