-- The levels before have delivered as many, and there are eighteen once one was looked at.
use Rattle.std.proofs.Common.{◌≡◌, ℕ, ◌+◌, ◌<◌, length, slice_get, Some}
use Rattle.log_model.specs.Delays.{progress}
use Rattle.log_model.specs.Numbered.{Log}
use Rattle.delay_view.specs.Levels.{Level}
use Rattle.table_check.specs.Beside.{AreDelivered}
use Rattle.table_check.proofs.levels.have_delivered.Given as goal

abbrev pub invariant-loop-k : goal.invariant-loop-k
invariant-loop-k l = record {
  all : 0 < l.k → length l.levels ≡ 18;
  each : (log : Log) → AreDelivered log l.delivered
      → (k : ℕ) (level : Level) → k < l.k → slice_get l.levels k ≡ Some level → level.copied ≡ progress log (k + 1);
}
