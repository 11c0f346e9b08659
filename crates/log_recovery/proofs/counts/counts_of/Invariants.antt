use Rattle.std.proofs.Common.{◌≡◌, ℕ, List, take}
use Rattle.log_model.specs.Told.{counts_in}
use Rattle.log_recovery.specs.Counts.{count_in}
use Rattle.log_recovery.proofs.counts.counts_of.Given as goal

abbrev pub invariant-loop-entry : goal.invariant-loop-entry
invariant-loop-entry l = (topic : List ℕ) (queue : ℕ) → count_in l.counts topic queue ≡ counts_in (take l.entry-index l.entries) topic queue
