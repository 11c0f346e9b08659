-- Counts of what a device did or failed at. A count that stands at the greatest u64 stays there.
use Rattle.std.specs.Prelude.{◌≡◌, ℕ, ◌+◌, ◌-◌, ◌^◌, ◌≤◌, min, Result, Ok, Err, MatchResult}
use Rattle.mq_outside.specs.declared.faults.DiskFault.{DiskFault}
use Rattle.mq_outside.specs.declared.faults.DiskFault.TheVariants.{Failed, Memory}

-- n more
abbrev pub Counted : ℕ → ℕ → ℕ → Type 0
Counted n old new = new ≡ min (old + n) (2 ^ 64 - 1)

-- at least one more
abbrev pub Rises : ℕ → ℕ → Type 0
Rises old new = (old ≤ new) × (min (old + 1) (2 ^ 64 - 1) ≤ new)

-- the count rises exactly at a failure
abbrev pub CountsFailure : {A E : Type 0} → Result A E → ℕ → ℕ → Type 0
CountsFailure result old new = MatchResult result (λ _. new ≡ old) (λ _. Rises old new)

-- the count rises exactly at Failed, and want of memory leaves it
abbrev pub CountsDiskFault : {A : Type 0} → Result A DiskFault → ℕ → ℕ → Type 0
CountsDiskFault (Ok _) old new = new ≡ old
CountsDiskFault (Err Failed) old new = Rises old new
CountsDiskFault (Err Memory) old new = new ≡ old
