use Rattle.std.proofs.Common.{◌≡◌, ◌≤◌, take}
use Rattle.std.specs.Prelude.{count_by}
use Rattle.log_model.specs.Queues.{entries_of}
use Rattle.log_model.specs.Kinds.{is_text, delay_level}
use Rattle.log_replay.proofs.delays.deliveries.Given as goal

abbrev pub invariant-loop-record : goal.invariant-loop-record
invariant-loop-record l = (l.count ≡ count_by (λ r. is_text l.digits (delay_level r)) (entries_of (take l.record-index l.log))) × (l.count ≤ l.record-index)
