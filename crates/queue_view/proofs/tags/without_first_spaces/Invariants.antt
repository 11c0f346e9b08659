-- What is left is the text without some of the spaces in front.
use Rattle.std.proofs.Common.{◌≡◌, length}
use Rattle.std.specs.Str.{IsUtf8}
use Rattle.log_model.specs.Pulls.{past_spaces}
use Rattle.queue_view.proofs.tags.without_first_spaces.Given as goal

abbrev pub invariant-loop-shorter : goal.invariant-loop-shorter
invariant-loop-shorter l = IsUtf8 l.rest × (past_spaces l.rest ≡ past_spaces l.fn.text)

abbrev pub decreases-loop-shorter : goal.decreases-loop-shorter
decreases-loop-shorter l = length l.rest
