use Rattle.std.proofs.Common.{◌≡◌, ◌≤◌, length, List, ℕ, Some}
use Rattle.record_codec.specs.Props.{pairs_in}
use Rattle.record_codec.proofs.MarkLemmas.{IsSeen}
use Rattle.record_codec.proofs.scan.are_distinct_by_marks.Given as goal

abbrev pub invariant-loop-rest : goal.invariant-loop-rest
invariant-loop-rest l = record {
  within : length l.rest ≤ length l.text;
  long : length l.words ≡ 4096;
  seen : (ps : List (List ℕ × List ℕ)) → pairs_in (length l.text) l.text ≡ Some ps → (seen : List (List ℕ × List ℕ)) × IsSeen l.text l.rest l.words ps seen;
}

abbrev pub decreases-loop-rest : goal.decreases-loop-rest
decreases-loop-rest l = length l.rest
