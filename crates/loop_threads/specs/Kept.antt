-- What is put into the kept files while loops run: the texts of cores that were seen, one after another.
use Rattle.std.specs.Prelude.{◌≡◌, ◌⊎◌, ℕ, List, [], ◌∷◌}
use Rattle.mq_outside.specs.Disk.{DiskState}
use Rattle.core_log.specs.declared.parts.Parts.{Parts}
use Rattle.keeper_turns.specs.Puts.{PutsBy}
use Rattle.keeper_turns.specs.Turns.{IsOffsetsOf, IsTopicsOf}

-- a keep over a run: that it tells its texts, and it before the run and behind it
pub record KeepOver : Type 1 where
  pub tells : Type 0
  pub old : DiskState
  pub new : DiskState

abbrev pub keep_over : Type 0 → DiskState → DiskState → KeepOver
keep_over tells old new = record { tells = tells; old = old; new = new }

-- ---- by looks at any core

-- the text is such a one of one of these cores
abbrev pub Among : (Parts → List ℕ → Type 0) → List Parts → List ℕ → Type 0
Among Is [] text = ⊥
Among Is (core ∷ cores) text = Is core text ⊎ Among Is cores text

module _ {C : Type 0} (sees : C → Parts → C → Type 0) where
  -- these cores were seen, one after another, from the first object to the second
  abbrev pub SeesAll : C → List Parts → C → Type 0
  SeesAll x [] y = x ≡ y
  SeesAll x (core ∷ cores) y = (next : C) × sees x core next × SeesAll next cores y

  -- Looks were made, and meanwhile each of the two kept files had its old text or that of a core that was seen, at each moment and
  -- in each crash image. No other text of the keep changed.
  pub record KeepsUp (keep : KeepOver) (x y : C) : Type 0 where
    pub cores : List Parts
    pub seen : SeesAll x cores y
    pub puts : keep.tells → PutsBy (Among IsOffsetsOf cores) (Among IsTopicsOf cores) keep.old keep.new
