-- The places are those of the rows that are passed, and the chain goes on over the others.
use Rattle.std.proofs.Common.{◌≡◌, ◌≤◌, ◌-◌, length, reverse, drop, take}
use Rattle.key_view.specs.Entries.{once, is_sought}
use Rattle.key_view.specs.Rooms.{Covers}
use Rattle.key_view.proofs.QueryLemmas.{places_in}
use Rattle.key_view.proofs.view.KeyView.query.Given as goal

abbrev pub invariant-loop-passed : goal.invariant-loop-passed
invariant-loop-passed l = record {
  few : length l.places.items ≤ l.most;
  chain : Covers l.fn.hash (drop l.passed (reverse l.self-inside.rows.items)) 0;
  found : l.places.items ≡ once (places_in (is_sought l.fn.hash l.fn.from l.fn.to l.fn.end) (take l.passed (reverse l.self-inside.rows.items)));
}

abbrev pub decreases-loop-passed : goal.decreases-loop-passed
decreases-loop-passed l = l.count - l.passed
