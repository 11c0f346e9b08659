use Rattle.std.proofs.Common.{◌≡◌, take}
use Rattle.log_model.specs.Told.{counts_in}
use Rattle.log_replay.proofs.queues.removed.Given as goal

abbrev pub invariant-loop-row : goal.invariant-loop-row
invariant-loop-row l = l.count ≡ counts_in (take l.row-index l.base.queues.items) l.topic l.queue
