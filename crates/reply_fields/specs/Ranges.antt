-- Ranges of stored pieces, and how often a reader was asked.
use Rattle.std.specs.Prelude.{ℕ, ◌+◌, ◌-◌, ◌^◌, ◌<◌, ◌≤◌, min}

-- Between none and n more. A count that stands at the greatest u64 stays there.
abbrev pub RisesAtMost : ℕ → ℕ → ℕ → Type 0
RisesAtMost n old new = (min old (2 ^ 64 - 1) ≤ new) × (new ≤ old + n)

-- where there are any of the n ranges, the reader was asked at least once
abbrev pub AreAsked : ℕ → ℕ → ℕ → Type 0
AreAsked n old new = 0 < n → min (old + 1) (2 ^ 64 - 1) ≤ new
