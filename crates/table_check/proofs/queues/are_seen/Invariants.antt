-- Consumers see all units of the tables before.
use Rattle.std.proofs.Common.{◌≡◌, ℕ, ◌<◌, length, slice_get, Some}
use Rattle.queue_view.specs.Tables.{Table}
use Rattle.table_check.proofs.queues.are_seen.Given as goal

abbrev pub invariant-loop-table : goal.invariant-loop-table
invariant-loop-table l = (k : ℕ) (t : Table) → k < l.table → slice_get l.queues k ≡ Some t → t.seen ≡ length t.units
