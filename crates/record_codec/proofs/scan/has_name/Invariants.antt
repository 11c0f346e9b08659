use Rattle.std.proofs.Common.{◌≡◌, length, List, ℕ, Some}
use Rattle.record_codec.specs.Props.{pairs_in}
use Rattle.record_codec.specs.Props.{has_name}
use Rattle.record_codec.proofs.scan.has_name.Given as goal

abbrev pub invariant-loop-rest : goal.invariant-loop-rest
invariant-loop-rest l = (ps : List (List ℕ × List ℕ)) → pairs_in (length l.text) l.text ≡ Some ps
    → (qs : List (List ℕ × List ℕ)) × (pairs_in (length l.rest) l.rest ≡ Some qs) × (has_name l.name qs ≡ has_name l.name ps)

abbrev pub decreases-loop-rest : goal.decreases-loop-rest
decreases-loop-rest l = length l.rest
