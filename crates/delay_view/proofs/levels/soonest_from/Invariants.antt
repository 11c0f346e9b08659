-- The time of those that were looked at, or of one that is left, has come as that of all.
use Rattle.std.proofs.Common.{◌≡◌, ◌||◌, ℕ, drop}
use Rattle.delay_view.specs.Levels.{has_come, is_any_due}
use Rattle.delay_view.proofs.levels.soonest_from.Given as goal

abbrev pub invariant-loop-level : goal.invariant-loop-level
invariant-loop-level l = (now : ℕ) → (has_come now l.time || is_any_due now (drop l.level-index l.level-items)) ≡ is_any_due now l.level-items
