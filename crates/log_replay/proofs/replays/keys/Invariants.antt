use Rattle.std.proofs.Common.{◌≡◌, take}
use Rattle.log_model.specs.Queues.{entries_of}
use Rattle.log_replay.specs.Replays.{key_entries}
use Rattle.log_replay.proofs.replays.keys.Given as goal

abbrev pub invariant-loop-record : goal.invariant-loop-record
invariant-loop-record l = l.keys.items ≡ key_entries (entries_of (take l.record-index l.log))
