use Rattle.std.proofs.Common.{◌≡◌, ◌≤◌, ◌&&◌, take}
use Rattle.std.specs.Prelude.{count_by}
use Rattle.log_model.specs.Queues.{entries_of}
use Rattle.log_model.specs.Kinds.{is_copy}
use Rattle.log_replay.specs.Told.{is_among}
use Rattle.log_replay.proofs.halves.copies_of.Given as goal

abbrev pub invariant-loop-record : goal.invariant-loop-record
invariant-loop-record l = (l.count ≡ count_by (λ r. is_copy r && is_among l.places.items r.prepared) (entries_of (take l.record-index l.log))) × (l.count ≤ l.record-index)
