use Rattle.std.proofs.Common.{◌≡◌, take, map}
use Rattle.log_model.specs.Queues.{entries_of}
use Rattle.log_replay.specs.Replays.{row_of, first_records}
use Rattle.log_replay.proofs.replays.queues.Given as goal

abbrev pub invariant-loop-i : goal.invariant-loop-i
invariant-loop-i l = l.rows.items ≡ map (row_of (entries_of l.log)) (first_records (entries_of (take l.i l.log)))
