-- All below `low` are below the bound, and all from `high` on are at or past it.
use Rattle.std.proofs.Common.{◌≡◌, ◌≤◌, ◌<◌, ◌-◌, ℕ, slice_get, Some}
use Rattle.chunks.proofs.chunks.Chunks.search.Given as goal

abbrev pub invariant-loop-low : goal.invariant-loop-low
invariant-loop-low g l =
    (l.low ≤ l.high) × (l.high ≤ l.fn.end)
    × ((k : ℕ) (x : _) → k < l.low → slice_get l.fn.self.items k ≡ Some x → g.T.Keyed.key x < l.fn.bound)
    × ((k : ℕ) (x : _) → l.high ≤ k → k < l.fn.end → slice_get l.fn.self.items k ≡ Some x → l.fn.bound ≤ g.T.Keyed.key x)

abbrev pub decreases-loop-low : goal.decreases-loop-low
decreases-loop-low g l = l.high - l.low
