-- What is left is the text without some of the spaces at its end.
use Rattle.std.proofs.Common.{◌≡◌, length, reverse}
use Rattle.std.specs.Str.{IsUtf8}
use Rattle.log_model.specs.Pulls.{past_spaces}
use Rattle.queue_view.proofs.tags.without_last_spaces.Given as goal

abbrev pub invariant-loop-shorter : goal.invariant-loop-shorter
invariant-loop-shorter l = IsUtf8 l.rest × (past_spaces (reverse l.rest) ≡ past_spaces (reverse l.fn.text))

abbrev pub decreases-loop-shorter : goal.decreases-loop-shorter
decreases-loop-shorter l = length l.rest
