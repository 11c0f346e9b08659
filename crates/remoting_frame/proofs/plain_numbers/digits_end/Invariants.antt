use Rattle.std.proofs.Common.{◌≤◌, ◌-◌, length}
use Rattle.remoting_frame.proofs.plain_numbers.digits_end.Given as goal

abbrev pub invariant-loop-at : goal.invariant-loop-at
invariant-loop-at l = record { behind : l.fn.from ≤ l.at; within : l.at ≤ length l.text }

abbrev pub decreases-loop-at : goal.decreases-loop-at
decreases-loop-at l = length l.text - l.at
