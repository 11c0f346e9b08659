use Rattle.std.proofs.Common.{◌≡◌, ℕ, ◌+◌, ◌*◌, ◌^◌, ◌≤◌}
use Rattle.record_codec.specs.Join.{shift_of}
use Rattle.record_codec.proofs.join.shift_over.Given as goal

-- Some bytes are in the shift, and the digits of the others are left.
abbrev pub invariant-loop-rest : goal.invariant-loop-rest
invariant-loop-rest l = (done : ℕ) × (l.shift ≡ shift_of done) × (done + l.rest * 16 ^ l.row ≡ l.len) × (l.row + l.rest ≤ l.len)

abbrev pub decreases-loop-rest : goal.decreases-loop-rest
decreases-loop-rest l = l.rest
