-- Entries that generic code makes by a pass, and what its owner knows of them. An entry is an event with what was said to it.
use Rattle.std.specs.Prelude.{◌≡◌, ℕ, suc, ◌≤◌, List, [], ◌∷◌, ◌++◌, length, slice_get, Option, Some}
use Rattle.story_lock.specs.declared.chronicle.Chronicle.{Ghosts}
use Rattle.story_lock.specs.declared.story.Pass.{Pass}
use Rattle.story_lock.specs.Counts.{StartsWith}
use Rattle.story_lock.specs.Passes.{seen_by, mine_of, IsSamePass, Adds}

-- the list has these items at these places
abbrev pub HasAt : {X : Type 0} → List X → List ℕ → List X → Type 0
HasAt log [] [] = Unit {0}
HasAt log [] (x ∷ xs) = ⊥
HasAt log (k ∷ ks) [] = ⊥
HasAt log (k ∷ ks) (x ∷ xs) = (slice_get log k ≡ Some x) × HasAt log ks xs

-- the numbers ascend, from this one or a later one on
abbrev pub AscendsFrom : ℕ → List ℕ → Type 0
AscendsFrom low [] = Unit {0}
AscendsFrom low (k ∷ ks) = (low ≤ k) × AscendsFrom (suc k) ks

module _ {S E A : Type 0} {chronicle : Ghosts S E A} where
  -- these entries were added, in this order, after all that the pass had seen, and are its own; it added no others
  pub record Owns (old : Pass S E A chronicle) (entries : List (E × A)) (new : Pass S E A chronicle) : Type 0 where
    pub places : List ℕ
    pub mine : mine_of new ≡ mine_of old ++ places
    pub ascend : AscendsFrom (length (seen_by old)) places
    pub stand : HasAt (seen_by new) places entries
    pub seen : StartsWith (seen_by new) (seen_by old)
    pub same : IsSamePass old new

  -- an object that has a pass makes one step by one turn
  abbrev pub StepsBy : {C : Type 0} → (C → Option (Pass S E A chronicle)) → C → E → A → C → Type 0
  StepsBy pass_of x event said y =
      (old : Pass S E A chronicle) × (new : Pass S E A chronicle) × (pass_of x ≡ Some old) × (pass_of y ≡ Some new)
      × Adds old event said new
