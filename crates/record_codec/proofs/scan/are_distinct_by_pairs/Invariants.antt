use Rattle.std.proofs.Common.{◌≡◌, length, List, ℕ, Some}
use Rattle.record_codec.specs.Props.{pairs_in}
use Rattle.record_codec.specs.Props.{are_distinct}
use Rattle.record_codec.proofs.scan.are_distinct_by_pairs.Given as goal

abbrev pub invariant-loop-rest : goal.invariant-loop-rest
invariant-loop-rest l = (ps : List (List ℕ × List ℕ)) → pairs_in (length l.text) l.text ≡ Some ps
    → (qs : List (List ℕ × List ℕ)) × (pairs_in (length l.rest) l.rest ≡ Some qs) × (are_distinct qs ≡ are_distinct ps)

abbrev pub decreases-loop-rest : goal.decreases-loop-rest
decreases-loop-rest l = length l.rest
