use Rattle.std.proofs.Common.{◌≤◌, ◌-◌, length, drop}
use Rattle.remoting_frame.proofs.EscapeSteps.{Passes}
use Rattle.remoting_frame.proofs.escapes.bytes_from.Given as goal

abbrev pub invariant-parts : goal.invariant-parts
invariant-parts l = Passes (drop l.from l.text) l.out.items (drop l.at l.text) × (l.from ≤ l.at) × (l.at ≤ length l.text)

abbrev pub decreases-parts : goal.decreases-parts
decreases-parts l = length l.text - l.at
