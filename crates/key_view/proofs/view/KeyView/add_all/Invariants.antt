-- What was added and what is left are the keys, and there is room for what is left.
use Rattle.std.proofs.Common.{◌≡◌, ◌≤◌, ◌+◌, ◌++◌, length}
use Rattle.key_view.specs.Entries.{entries_at}
use Rattle.key_view.proofs.view.KeyView.add_all.Given as goal

abbrev pub invariant-loop-hash : goal.invariant-loop-hash
invariant-loop-hash l = record {
  entries : l.self.entries ++ entries_at l.place l.store l.left ≡ l.initial.self.entries ++ entries_at l.place l.store l.initial.left;
  spare : l.initial.self.spare + length l.left ≤ l.self.spare + length l.initial.left;
  room : length l.left ≤ l.self.spare;
}

abbrev pub decreases-loop-hash : goal.decreases-loop-hash
decreases-loop-hash l = length l.left
