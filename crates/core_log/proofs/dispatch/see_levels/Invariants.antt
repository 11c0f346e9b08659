use Rattle.std.proofs.Common.{ℕ}
use Rattle.log_model.specs.Numbered.{Log, IsLawful}
use Rattle.pending_log.specs.Rows.{AreRowsOf}
use Rattle.level_records.specs.OfLog.{HasLevels}
use Rattle.core_log.specs.Represents.{AreTabled}
use Rattle.core_log.proofs.dispatch.see_levels.Given as goal

-- the levels are those of the log with the records so far seen
abbrev pub invariant-loop-number : goal.invariant-loop-number
invariant-loop-number l = (segment : ℕ) (log : Log) → IsLawful segment log → AreRowsOf log l.rows → AreTabled l.queues log.records l.rows.items → HasLevels log l.from l.fn.levels
    → HasLevels log l.number l.levels
