-- The queues of the rows before have tables, or no records.
use Rattle.std.proofs.Common.{◌≡◌, take, false}
use Rattle.std.specs.List.{list_any}
use Rattle.table_check.proofs.RemovedLemmas.{is_lost_row}
use Rattle.table_check.proofs.queues.lacks_removed.Given as goal

abbrev pub invariant-loop-row : goal.invariant-loop-row
invariant-loop-row l = list_any (is_lost_row l.queues l.base.queues.items) (take l.row-index l.base.queues.items) ≡ false
