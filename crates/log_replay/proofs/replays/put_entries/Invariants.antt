use Rattle.std.proofs.Common.{◌≡◌, ◌++◌, take, map}
use Rattle.log_replay.proofs.replays.put_entries.Given as goal

abbrev pub invariant-loop-hash : goal.invariant-loop-hash
invariant-loop-hash l = l.entries.items ≡ l.initial.entries.items ++ map (λ hash. (hash, l.r.place.offset, l.r.place.store)) (take l.hash-index l.hash-items)
