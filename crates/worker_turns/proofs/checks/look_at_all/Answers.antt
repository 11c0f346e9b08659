use Rattle.std.proofs.Common.{◌≡◌, ◌+◌, arith}
use Rattle.std.specs.Vec.Iter.{into_iter_len}
use Rattle.worker_turns.proofs.CheckLemmas.{looked_one}
use Rattle.worker_turns.proofs.checks.look_at_all.Goals as goal

pub loop-number-preserved : goal.loop-number-preserved
loop-number-preserved g c =
    let less : into_iter_len c.next.new.self + 1 ≡ into_iter_len c.loop-number.asked = c.in-Some.ensures.len in
    record {
      looked = looked_one _ _ _ _ _ _ _ c.in-Some.number c.in-Some.ask c.look_at-what.result _ _ _ _ _ _ c.loop-number.invariant.looked c.in-Some.ensures.items c.look_at-what.ensures.made c.sort.ensures.held c.sort.ensures.out;
      held_room = omega (arith, less, c.sort.ensures.held_room.0, c.sort.ensures.held_room.1, c.loop-number.invariant.held_room);
      out_room = omega (arith, less, c.sort.ensures.out_room.0, c.sort.ensures.out_room.1, c.loop-number.invariant.out_room);
      free = λ free. c.look_at-what.ensures.free (c.loop-number.invariant.free free);
    }
