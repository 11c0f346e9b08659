use Rattle.std.proofs.Common.{◌∙◌, ap, ◌++◌, ◌∷◌, [], arith}
use Rattle.link_service.specs.Clocks.{at_reading}
use Rattle.link_service.specs.Transcripts.{counted_to}
use Rattle.event_loops.proofs.Counting.{grow_none, grow_then, passed_on}
use Rattle.event_loops.proofs.Entering.{door_same, door_then}
use Rattle.event_loops.specs.Tales.{loop_view}
use Rattle.event_loops.proofs.Timing.{led_whenever, taken_whenever, timed_pass, timed_quietly}
use Rattle.event_loops.proofs.Told.{taking_serving}
use Rattle.event_loops.proofs.event_loop.EventLoop.pass.Goals as goal

pub returns-in_err-more_came : goal.returns-in_err-more_came
returns-in_err-more_came g c = record {
  went = λ most high. timed_quietly g.C.Calls.makes g.A.Takes.takes (loop_view g.P.Link.Link.tells g.P.Link.Link.given g.P.Link.Link.taken g.P.Ends.Ends.tells g.P.Ends.Ends.entries) (counted_to g.R.Reader.gives most) g.K.Clock.tells g.met.A.Takes.takes_none _ _ _ _ _ _ _ _ (c.gather.ensures.went most (omega arith))
      (λ tells. ap g.K.Clock.readings c.gather.ensures.clock);
  door = c.gather.ensures.door;
  grows = omega arith;
  cause = passed_on c.from_residual.result _ _ _ _ c.from_residual.ensures.1 (grow_none _) c.in_err-more_came.ensures.cause;
}

pub returns-in_err-now : goal.returns-in_err-now
returns-in_err-now g c = record {
  went = λ most high. timed_quietly g.C.Calls.makes g.A.Takes.takes (loop_view g.P.Link.Link.tells g.P.Link.Link.given g.P.Link.Link.taken g.P.Ends.Ends.tells g.P.Ends.Ends.entries) (counted_to g.R.Reader.gives most) g.K.Clock.tells g.met.A.Takes.takes_none _ _ _ _ _ _ _ _ (c.gather.ensures.went most (omega arith))
      (λ tells. c.in_err-now.ensures.still tells ∙ ap g.K.Clock.readings c.gather.ensures.clock);
  door = door_then g.P.Door.Door.gave _ _ _ c.gather.ensures.door (door_same g.P.Door.Door.gave _ _ c.now.ensures.entrance);
  grows = omega arith;
  cause = passed_on c.from_residual-in_err-now.result _ _ _ _ c.from_residual-in_err-now.ensures.1 c.in_ok-more_came.ensures.cause c.in_err-now.ensures.cause;
}

pub returns : goal.returns
returns g c = record {
  went = λ most high. timed_pass g.C.Calls.makes g.A.Takes.takes (loop_view g.P.Link.Link.tells g.P.Link.Link.given g.P.Link.Link.taken g.P.Ends.Ends.tells g.P.Ends.Ends.entries) (counted_to g.R.Reader.gives most) g.K.Clock.tells c.in_ok-now.now _ _ _ _ _ _ _ _ _ _
      (taking_serving (loop_view g.P.Link.Link.tells g.P.Link.Link.given g.P.Link.Link.taken g.P.Ends.Ends.tells g.P.Ends.Ends.entries) (counted_to g.R.Reader.gives most) (at_reading c.in_ok-now.now g.C.Calls.makes) g.A.Takes.takes g.met.A.Takes.takes_more g.met.A.Takes.takes_none _ _ _ _ _ _ _ _ _ _ _ _ _ _
      (led_whenever g.C.Calls.makes c.in_ok-now.now _ _ _ _ _ _ (c.gather.ensures.went most (omega arith))) c.note_turns.ensures.links
      (taken_whenever g.C.Calls.makes g.A.Takes.takes c.in_ok-now.now _ _ _ _ _ _ _ (c.take_asks-more_asks.ensures.went most (omega (arith, high, c.serve.ensures.grows)))) (c.serve.ensures.went most high))
      (λ tells. c.in_ok-now.ensures.gave tells ∙ ap (λ l. l ++ c.in_ok-now.now ∷ []) (ap g.K.Clock.readings c.gather.ensures.clock));
  door = door_then g.P.Door.Door.gave _ _ _ c.gather.ensures.door (door_same g.P.Door.Door.gave _ _ c.now.ensures.entrance);
  grows = omega (arith, c.take_asks-more_asks.ensures.grows, c.serve.ensures.grows);
  cause = grow_then _ _ _ c.in_ok-more_came.ensures.cause c.in_ok-now.ensures.cause;
}
