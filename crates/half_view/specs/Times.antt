-- Times in a tree: how it is kept, and what is found in it.
use Rattle.std.specs.Prelude.{◌≡◌, ◌≢◌, ◌⊎◌, ℕ, ◌+◌, ◌*◌, ◌/◌, ◌^◌, ◌<◌, ◌≤◌, min, List, length, drop, slice_get, slice_index, Some}

-- the second half of the nodes
abbrev pub times_in : List ℕ → List ℕ
times_in nodes = drop (length nodes / 2) nodes

-- the node has the earlier one of the two below it
abbrev pub IsLeast : List ℕ → ℕ → Type 0
IsLeast nodes i = slice_index nodes i ≡ min (slice_index nodes (2 * i)) (slice_index nodes (2 * i + 1))

-- so has each that has two below it, but maybe one
abbrev pub AreLeastBut : List ℕ → ℕ → Type 0
AreLeastBut nodes n = (i : ℕ) → 1 ≤ i → 2 * i + 1 < length nodes → i ≢ n → IsLeast nodes i

abbrev pub AreLeast : List ℕ → Type 0
AreLeast nodes = (i : ℕ) → 1 ≤ i → 2 * i + 1 < length nodes → IsLeast nodes i

-- Half of the nodes are times, as many as a tree of this height has; where there are no nodes there are no times.
pub record IsTree (nodes : List ℕ) (height : ℕ) : Type 0 where
  pub size : (length nodes ≡ 0) ⊎ (length nodes ≡ 2 * 2 ^ height)
  pub least : AreLeast nodes

-- none of the first n times has come
abbrev pub AreAllLater : ℕ → List ℕ → ℕ → Type 0
AreAllLater now times n = (k time : ℕ) → k < n → slice_get times k ≡ Some time → now < time
