use Rattle.std.proofs.Common.{length, List, ℕ}
use Rattle.record_codec.proofs.PropsLemmas.{IsTaken}
use Rattle.record_codec.proofs.props.Props.of_written.Given as goal

abbrev pub invariant-loop-name : goal.invariant-loop-name
invariant-loop-name l = (left : List (List ℕ × List ℕ)) × IsTaken l.text l.rest l.pairs.items left

abbrev pub decreases-loop-name : goal.decreases-loop-name
decreases-loop-name l = length l.rest
