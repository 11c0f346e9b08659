use Rattle.std.proofs.Common.{◌≡◌, take, false}
use Rattle.std.specs.List.{list_any}
use Rattle.log_model.specs.Queues.{said_by, entries_of}
use Rattle.log_replay.specs.Replays.{are_of_one_queue}
use Rattle.log_replay.proofs.replays.has_queue.Given as goal

abbrev pub invariant-loop-record : goal.invariant-loop-record
invariant-loop-record l = list_any (λ earlier. are_of_one_queue earlier (said_by l.r)) (entries_of (take l.record-index l.log)) ≡ false
