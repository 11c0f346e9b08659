-- Why a flush turn ends as it does: by the disk's count of failures.
use Rattle.std.specs.Prelude.{ℕ}
use Rattle.mq_outside.specs.Counts.{Rises}
use Rattle.worker_turns.specs.declared.flush.FlushEnd.{FlushEnd}
use Rattle.worker_turns.specs.declared.flush.FlushEnd.TheVariants as flush

-- a flush turn that ends so didn't fail, or the disk did
abbrev pub BlamesDisk : FlushEnd → ℕ → ℕ → Type 0
BlamesDisk flush.Idle old new = Unit {0}
BlamesDisk flush.Done old new = Unit {0}
BlamesDisk (flush.Failed count) old new = Rises old new
BlamesDisk flush.Misplaced old new = Unit {0}
BlamesDisk flush.Memory old new = Unit {0}
