use Rattle.std.proofs.Common.{◌+◌, ◌≤◌}
use Rattle.std.specs.Prelude.{vec_len, vec_capacity}
use Rattle.std.specs.Vec.Iter.{into_iter_items, into_iter_len}
use Rattle.worker_turns.specs.Acts.{IsFree}
use Rattle.worker_turns.proofs.CheckLemmas.{LooksSoFar}
use Rattle.worker_turns.proofs.checks.look_at_all.Given as goal

abbrev pub invariant-loop-number : goal.invariant-loop-number
invariant-loop-number g l = record {
  looked : LooksSoFar g.C.Calls.makes l.initial.calls l.initial.held.items l.initial.out.items (into_iter_items l.initial.asked) (into_iter_items l.asked) l.calls l.held.items l.out.items;
  held_room : vec_len l.held + into_iter_len l.asked ≤ vec_capacity l.held;
  out_room : vec_len l.out + into_iter_len l.asked ≤ vec_capacity l.out;
  free : IsFree (g.C.Calls.has_key l.initial.calls) (g.C.Calls.shown l.initial.calls) → IsFree (g.C.Calls.has_key l.calls) (g.C.Calls.shown l.calls);
}

abbrev pub decreases-loop-number : goal.decreases-loop-number
decreases-loop-number g l = into_iter_len l.asked
