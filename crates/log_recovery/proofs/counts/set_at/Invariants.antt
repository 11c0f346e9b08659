use Rattle.std.proofs.Common.{◌≡◌, ℕ, slice_index, vec_len}
use Rattle.log_recovery.proofs.counts.set_at.Given as goal

abbrev pub invariant-loop : goal.invariant-loop
invariant-loop l = ((other : ℕ) → slice_index l.counts.items other ≡ slice_index l.fn.counts.items other) × (vec_len l.counts ≡ l.counter)
