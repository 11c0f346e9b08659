-- No member so far has the queue offset.
use Rattle.std.specs.Prelude.{◌≡◌, ◌<◌, ◌==◌, ℕ, slice_get, Some, false}
use Rattle.record_codec.specs.Entry.{Entry}
use Rattle.half_records.proofs.kept.KeptHalf.member.Given as goal

abbrev pub invariant-loop-whole : goal.invariant-loop-whole
invariant-loop-whole l = (j : ℕ) (r : Entry) → j < l.whole-index → slice_get l.self.family j ≡ Some r → (r.queue_offset == l.half) ≡ false
