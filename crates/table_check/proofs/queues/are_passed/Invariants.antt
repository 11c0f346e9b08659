-- The tables before have what the log says.
use Rattle.std.proofs.Common.{◌≡◌, ℕ, ◌<◌, List, slice_get, Some}
use Rattle.record_codec.specs.Entry.{Entry}
use Rattle.queue_view.specs.Tables.{Table}
use Rattle.table_check.specs.Beside.{HavePassed, log_from}
use Rattle.table_check.specs.Equal.{IsQueueOf}
use Rattle.table_check.proofs.queues.are_passed.Given as goal

abbrev pub invariant-loop-table : goal.invariant-loop-table
invariant-loop-table l = (records : List Entry) → HavePassed records l.queues l.units.items
    → (k : ℕ) (t : Table) → k < l.table → slice_get l.queues k ≡ Some t → IsQueueOf (log_from l.base records) t
