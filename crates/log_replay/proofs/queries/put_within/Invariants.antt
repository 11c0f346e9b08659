use Rattle.std.proofs.Common.{◌≡◌, ◌++◌, List, drop, map}
use Rattle.record_codec.specs.Entry.{Entry}
use Rattle.log_model.specs.Keys.{within}
use Rattle.log_replay.specs.Told.{place_and_size}
use Rattle.log_replay.proofs.queries.put_within.Given as goal

abbrev pub invariant-loop-place : goal.invariant-loop-place
invariant-loop-place l = (rs : List Entry) → l.records ≡ map place_and_size rs
    → l.places.items ++ map (λ r. r.offset) (within l.room (drop l.place-index rs)) ≡ l.initial.places.items ++ map (λ r. r.offset) (within l.initial.room rs)
