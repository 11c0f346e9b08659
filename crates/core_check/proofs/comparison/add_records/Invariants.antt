-- The records before were added, and the tables stay the same.
use Rattle.std.proofs.Common.{[], take}
use Rattle.log_model.specs.Queues.{entries_of}
use Rattle.table_check.specs.Beside.{IsBeside, IsOfSame}
use Rattle.core_check.proofs.comparison.add_records.Given as goal

abbrev pub invariant-loop-record : goal.invariant-loop-record
invariant-loop-record l = record {
  same : IsOfSame l.initial.comparing l.comparing;
  beside : IsBeside [] l.initial.comparing → IsBeside (entries_of (take l.record-index l.log)) l.comparing;
}
