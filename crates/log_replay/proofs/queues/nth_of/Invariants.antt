use Rattle.std.proofs.Common.{◌≡◌, drop, slice_get}
use Rattle.log_model.specs.Queues.{entries_of, queue_of}
use Rattle.log_replay.proofs.queues.nth_of.Given as goal

abbrev pub invariant-loop-record : goal.invariant-loop-record
invariant-loop-record l = slice_get (queue_of (entries_of (drop l.record-index l.log)) l.topic l.queue) l.left ≡ slice_get (queue_of (entries_of l.log) l.topic l.queue) l.initial.left
