use Rattle.std.proofs.Common.{◌≡◌, ◌-◌, ◌≤◌, length, drop}
use Rattle.json.specs.Lex.{lex, between}
use Rattle.remoting_frame.proofs.json_bytes.past_spaces.Given as goal

abbrev pub invariant-loop-at : goal.invariant-loop-at
invariant-loop-at l =
    (lex between (drop l.at l.text) ≡ lex between (drop l.from l.text)) × (l.from ≤ l.at) × (l.at ≤ length l.text)

abbrev pub decreases-loop-at : goal.decreases-loop-at
decreases-loop-at l = length l.text - l.at
