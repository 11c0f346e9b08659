use Rattle.std.proofs.Common.{◌≡◌, take}
use Rattle.std.specs.Prelude.{map, filter}
use Rattle.log_model.specs.Queues.{entries_of}
use Rattle.log_replay.specs.Told.{is_of_origin}
use Rattle.log_replay.proofs.halves.family_of.Given as goal

abbrev pub invariant-loop-record : goal.invariant-loop-record
invariant-loop-record l = l.places.items ≡ map (λ r. r.offset) (filter (is_of_origin l.origin l.digits.items) (entries_of (take l.record-index l.log)))
