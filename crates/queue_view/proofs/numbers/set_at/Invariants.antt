use Rattle.std.proofs.Common.{◌≡◌, ℕ, slice_index, vec_len}
use Rattle.queue_view.proofs.numbers.set_at.Given as goal

abbrev pub invariant-loop : goal.invariant-loop
invariant-loop l = ((other : ℕ) → slice_index l.list.items other ≡ slice_index l.fn.list.items other) × (vec_len l.list ≡ l.counter)
