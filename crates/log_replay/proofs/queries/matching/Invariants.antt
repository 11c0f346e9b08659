use Rattle.std.proofs.Common.{◌≡◌, take, map}
use Rattle.std.specs.Prelude.{filter}
use Rattle.log_model.specs.Queues.{entries_of}
use Rattle.log_model.specs.Keys.{is_match}
use Rattle.log_replay.specs.Told.{place_and_size}
use Rattle.log_replay.proofs.queries.matching.Given as goal

abbrev pub invariant-loop-record : goal.invariant-loop-record
invariant-loop-record l = l.found.items ≡ map place_and_size (filter (is_match l.hash l.from l.to) (entries_of (take l.record-index l.log)))
