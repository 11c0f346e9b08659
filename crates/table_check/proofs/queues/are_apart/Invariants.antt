-- The tables before are those that their queues are looked up as.
use Rattle.std.proofs.Common.{◌≡◌, ℕ, ◌<◌, slice_get, Some}
use Rattle.queue_view.specs.Tables.{Table, number_of}
use Rattle.table_check.proofs.queues.are_apart.Given as goal

abbrev pub invariant-loop-table : goal.invariant-loop-table
invariant-loop-table l = (k : ℕ) (t : Table) → k < l.table → slice_get l.queues k ≡ Some t → number_of l.queues t.topic t.queue ≡ Some k
