use Rattle.std.proofs.Common.{◌≡◌, ◌&&◌, take, false, bytes_eq}
use Rattle.std.specs.List.{list_any}
use Rattle.log_model.specs.Queues.{entries_of}
use Rattle.log_model.specs.Kinds.{is_op}
use Rattle.log_replay.proofs.halves.is_named.Given as goal

abbrev pub invariant-loop-record : goal.invariant-loop-record
invariant-loop-record l = list_any (λ r. is_op r && bytes_eq r.body l.digits) (entries_of (take l.record-index l.log)) ≡ false
