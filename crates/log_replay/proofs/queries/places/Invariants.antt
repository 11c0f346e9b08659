use Rattle.std.proofs.Common.{◌≡◌, take, map}
use Rattle.log_replay.proofs.queries.places.Given as goal

abbrev pub invariant-loop-place : goal.invariant-loop-place
invariant-loop-place l = l.places.items ≡ map (λ r. r.0) (take l.place-index l.records)
