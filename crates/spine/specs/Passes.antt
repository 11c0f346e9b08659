-- How passes are split and joined, as an object that has a pass sees it.
use Rattle.std.specs.Prelude.{◌≡◌, ◌+◌, [], ◌∷◌, ◌++◌, length, Option, IfSome}
use Rattle.story_lock.specs.declared.chronicle.Chronicle.{Ghosts}
use Rattle.story_lock.specs.declared.story.Pass.{Pass}
use Rattle.story_lock.specs.Counts.{StartsWith, IsDistinct, greatest, without}
use Rattle.story_lock.specs.Rule.{longer, shorter}
use Rattle.story_lock.specs.Passes.{seen_by, mine_of, numbers_of}

-- there is a pass before and after, and they are like this
abbrev pub ArePasses : {P : Type 0} → Option P → Option P → (P → P → Type 0) → Type 0
ArePasses old new R = IfSome old (λ p. IfSome new (λ q. R p q))

module _ {S E A : Type 0} {chronicle : Ghosts S E A} where
  -- both have seen what the old pass had seen; the second has its greatest seat number and no entries
  pub record Splits (old new other : Pass S E A chronicle) : Type 0 where
    pub seen : (seen_by new ≡ seen_by old) × (seen_by other ≡ seen_by old)
    pub mine : (mine_of new ≡ mine_of old) × (mine_of other ≡ [])
    pub numbers : (numbers_of new ≡ without (greatest (numbers_of old)) (numbers_of old))
        × (numbers_of other ≡ greatest (numbers_of old) ∷ [])
    pub count : length (numbers_of new) + 1 ≡ length (numbers_of old)

  -- two passes are one: the shorter of the histories that they had seen begins the longer, and no entry was of both
  pub record Joins (one other new : Pass S E A chronicle) : Type 0 where
    pub seen : seen_by new ≡ longer (seen_by one) (seen_by other)
    pub begins : StartsWith (seen_by new) (shorter (seen_by one) (seen_by other))
    pub mine : (mine_of new ≡ mine_of one ++ mine_of other) × IsDistinct (mine_of new)
    pub numbers : numbers_of new ≡ numbers_of one ++ numbers_of other
