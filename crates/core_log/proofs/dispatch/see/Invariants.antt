use Rattle.std.proofs.Common.{◌-◌}
use Rattle.log_model.specs.Numbered.{Log}
use Rattle.pending_log.specs.Rows.{AreRowsOf}
use Rattle.core_log.specs.Represents.{AreTabled, AreTablesOf}
use Rattle.core_log.proofs.SeeLemmas.{AreSeen}
use Rattle.core_log.proofs.dispatch.see.Given as goal

-- the tables are those of the records so far
abbrev pub invariant-loop-number : goal.invariant-loop-number
invariant-loop-number l = (log : Log) → AreRowsOf log l.rows → AreTabled l.fn.queues log.records l.rows.items → AreTablesOf log.base log.records (l.from - log.base.records) l.fn.queues
    → AreSeen log l.rows (l.number - log.base.records) l.queues
