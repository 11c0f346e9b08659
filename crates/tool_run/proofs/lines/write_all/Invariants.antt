use Rattle.std.proofs.Common.{length, take, ◌-◌, ◌≡◌, ◌++◌, ◌≤◌}
use Rattle.tool_run.proofs.lines.write_all.Given as goal

abbrev pub invariant-loop-at : goal.invariant-loop-at
invariant-loop-at g l = record {
  within : l.at ≤ length l.piece;
  same : g.K.Sink.faults l.sink ≡ g.K.Sink.faults l.initial.sink;
  taken : g.K.Sink.tells → g.K.Sink.taken l.sink ≡ g.K.Sink.taken l.initial.sink ++ take l.at l.piece;
}

abbrev pub decreases-loop-at : goal.decreases-loop-at
decreases-loop-at g l = length l.piece - l.at
