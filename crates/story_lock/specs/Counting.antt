-- The counter of the tests, as a relation.
use Rattle.std.specs.Prelude.{◌≡◌, ℕ, ◌+◌, ◌%◌, ◌^◌, List, [], ◌∷◌}

-- these entries lead from the first count to the second: each adds its event, and what was said is the count before it
abbrev pub Counts : ℕ → List (ℕ × ℕ) → ℕ → Type 0
Counts count [] now = count ≡ now
Counts count (e ∷ es) now = (e.1 ≡ count) × Counts ((count + e.0) % 2 ^ 64) es now
