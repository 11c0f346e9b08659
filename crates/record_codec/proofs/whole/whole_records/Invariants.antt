use Rattle.std.proofs.Common.{length, ◌-◌}
use Rattle.record_codec.proofs.WholeLemmas.{Left}
use Rattle.record_codec.proofs.whole.whole_records.Given as goal

abbrev pub invariant-loop-at : goal.invariant-loop-at
invariant-loop-at l = Left l.bytes l.place l.count l.at

abbrev pub decreases-loop-at : goal.decreases-loop-at
decreases-loop-at l = length l.bytes - l.at
