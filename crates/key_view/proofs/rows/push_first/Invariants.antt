-- The first rows are added, and there is room for the others.
use Rattle.std.proofs.Common.{◌≡◌, ◌≤◌, ◌+◌, ◌++◌, take}
use Rattle.key_view.proofs.rows.push_first.Given as goal

abbrev pub invariant-loop-k : goal.invariant-loop-k
invariant-loop-k l = record {
  items : l.chunks.items ≡ l.initial.chunks.items ++ take l.k l.rows;
  room : l.count ≤ l.chunks.spare + l.k;
}
