use Rattle.std.proofs.Common.{◌≡◌, ◌&&◌, take, false}
use Rattle.std.specs.List.{list_any}
use Rattle.log_model.specs.Queues.{entries_of}
use Rattle.log_model.specs.Kinds.{is_discard}
use Rattle.log_replay.specs.Told.{is_among}
use Rattle.log_replay.proofs.halves.is_discarded.Given as goal

abbrev pub invariant-loop-record : goal.invariant-loop-record
invariant-loop-record l = list_any (λ r. is_discard r && is_among l.places r.prepared) (entries_of (take l.record-index l.log)) ≡ false
