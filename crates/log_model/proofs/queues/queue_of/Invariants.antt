use Rattle.std.proofs.Common.{◌≡◌, take}
use Rattle.log_model.specs.Queues.{entries_of, units_of}
use Rattle.log_model.proofs.queues.queue_of.Given as goal

abbrev pub invariant-loop-record : goal.invariant-loop-record
invariant-loop-record l = l.units.items ≡ units_of (entries_of (take l.record-index l.log)) l.topic l.queue
