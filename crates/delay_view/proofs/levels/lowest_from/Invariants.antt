-- What is left to look at answers as all do.
use Rattle.std.proofs.Common.{◌≡◌, ◌≤◌, ◌+◌, drop, length}
use Rattle.delay_view.specs.Levels.{due_from}
use Rattle.delay_view.proofs.levels.lowest_from.Given as goal

abbrev pub invariant-loop-level : goal.invariant-loop-level
invariant-loop-level l = record {
  number : l.number ≡ l.fn.idle + l.level-index + 1;
  few : l.fn.idle + length l.level-items ≤ 18;
  left : due_from l.fn.now (1 + l.fn.idle) l.level-items ≡ due_from l.fn.now l.number (drop l.level-index l.level-items);
}
