use Rattle.std.proofs.Common.{◌≡◌, ◌<◌, ◌≤◌, [], length, get_or, Less, nat_cmp}
use Rattle.std.specs.Cmp.Lexicographic.{slice_cmp}
use Rattle.remoting_frame.proofs.fields.Fields.spot_of.Given as goal

abbrev pub invariant-loop-at : goal.invariant-loop-at
invariant-loop-at l = record { within : l.at ≤ length l.self; above : l.at < length l.self → slice_cmp nat_cmp l.name (get_or l.self l.at ([], [])).0 ≡ Less }

abbrev pub decreases-loop-at : goal.decreases-loop-at
decreases-loop-at l = l.at
