use Rattle.std.proofs.Common.{inl, refl, arith}
use Rattle.log_model.proofs.OutsideLemmas.{outside_start}
use Rattle.event_loops.specs.Timing.{clock_over}
use Rattle.flush_rounds.specs.Timing.{AreNotDue, IsAttended}
use Rattle.flush_rounds.proofs.Asking.{asking_then}
use Rattle.flush_rounds.proofs.Timing.{attends_later}
use Rattle.flush_rounds.proofs.Turns.{duties_turns}
use Rattle.flush_rounds.proofs.state.FlushState.attend.Goals as goal

pub returns : goal.returns
returns g c =
    let old = g.K.Clock.readings c.args.self.now.timetable.clock in
    let new = g.K.Clock.readings c.work.new.self.clock in
    let timed = IsAttended (clock_over g.K.Clock.tells old new) in
    let made = asking_then g.C.Calls.makes AreNotDue timed timed (attends_later g.K.Clock.tells old new) _ _ _ _ _ _ c.hand_out.ensures.made c.work.ensures.made in
    let free = c.work.ensures.free (c.hand_out.ensures.free (record { key_is = c.requires.key; none_out = c.requires.none_out })) in
    record {
      acted = duties_turns g.C.Calls.makes _ (clock_over g.K.Clock.tells old new) _ _ _ _ _ made;
      ways = made.ways;
      outside = λ tells. outside_start _;
      grow = omega arith;
      cause = inl refl;
      ready = record { key = free.key_is; none_out = free.none_out; inside = c.requires.inside };
    }
