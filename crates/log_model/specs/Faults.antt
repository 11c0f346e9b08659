-- When a load answers which fault.
use Rattle.std.specs.Prelude.{◌≡◌, ℕ, Result, Ok, Err}
use Rattle.mq_outside.specs.Counts.{Rises}
use Rattle.log_model.specs.declared.fault.LoadFault.{LoadFault}
use Rattle.log_model.specs.declared.fault.LoadFault.TheVariants.{Damaged, Failed, Memory}

-- the count rises exactly at Failed: neither damage nor want of memory changes it
abbrev pub CountsLoadFault : {A : Type 0} → Result A LoadFault → ℕ → ℕ → Type 0
CountsLoadFault (Ok _) old new = new ≡ old
CountsLoadFault (Err Failed) old new = Rises old new
CountsLoadFault (Err (Damaged _ _)) old new = new ≡ old
CountsLoadFault (Err Memory) old new = new ≡ old
