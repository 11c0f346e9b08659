use Rattle.link_service.specs.Transcripts.{counted_to}
use Rattle.std.proofs.Common.{arith}
use Rattle.event_loops.proofs.Counting.{grow_none, grow_then, ends_then, never_done}
use Rattle.event_loops.proofs.Entering.{door_still, door_then}
use Rattle.event_loops.specs.Tales.{loop_view}
use Rattle.event_loops.proofs.Timing.{timed_on, timed_start}
use Rattle.event_loops.proofs.event_loop.EventLoop.go_on.Goals as goal

pub loop-init : goal.loop-init
loop-init g c = record {
  next = tt;
  finite = tt;
  went = λ most high. timed_start g.C.Calls.makes g.A.Takes.takes (loop_view g.P.Link.Link.tells g.P.Link.Link.given g.P.Link.Link.taken g.P.Ends.Ends.tells g.P.Ends.Ends.entries) (counted_to g.R.Reader.gives most) g.K.Clock.tells g.met.A.Takes.takes_none _ _ _ _ _;
  grows = omega arith;
  door = door_still g.P.Door.Door.gave _;
  grow = grow_none _;
}

pub returns-in-Err : goal.returns-in-Err
returns-in-Err g c = record {
  went = λ most high. timed_on g.C.Calls.makes g.A.Takes.takes (loop_view g.P.Link.Link.tells g.P.Link.Link.given g.P.Link.Link.taken g.P.Ends.Ends.tells g.P.Ends.Ends.entries) (counted_to g.R.Reader.gives most) g.K.Clock.tells g.met.A.Takes.takes_more _ _ _ _ _ _ _ _ _ _ _ _ _ _ _ (c.loop.invariant.went most (omega (arith, high, c.pass.ensures.grows))) (c.pass.ensures.went most high);
  grows = omega (arith, c.loop.invariant.grows, c.pass.ensures.grows);
  door = record {
    keeps = door_then g.P.Door.Door.gave _ _ _ c.loop.invariant.door c.pass.ensures.door;
    done = λ is. absurd (never_done _ c.in-Err.ensures.cause.1 is);
  };
  cause = ends_then _ _ _ _ c.loop.invariant.grow c.in-Err.ensures.cause.0;
}

pub loop-preserved : goal.loop-preserved
loop-preserved g c = record {
  next = tt;
  finite = tt;
  went = λ most high. timed_on g.C.Calls.makes g.A.Takes.takes (loop_view g.P.Link.Link.tells g.P.Link.Link.given g.P.Link.Link.taken g.P.Ends.Ends.tells g.P.Ends.Ends.entries) (counted_to g.R.Reader.gives most) g.K.Clock.tells g.met.A.Takes.takes_more _ _ _ _ _ _ _ _ _ _ _ _ _ _ _ (c.loop.invariant.went most (omega (arith, high, c.pass.ensures.grows))) (c.pass.ensures.went most high);
  grows = omega (arith, c.loop.invariant.grows, c.pass.ensures.grows);
  door = door_then g.P.Door.Door.gave _ _ _ c.loop.invariant.door c.pass.ensures.door;
  grow = grow_then _ _ _ c.loop.invariant.grow c.in-Ok.ensures.cause;
}

pub returns-then-is_ending-clause-door : goal.returns-then-is_ending-clause-door
returns-then-is_ending-clause-door g c = record { keeps = c.loop.invariant.door; done = λ is. absurd (cc is) }

pub returns-then-is_done-clause-door : goal.returns-then-is_done-clause-door
returns-then-is_done-clause-door g c = record { keeps = c.loop.invariant.door; done = λ is. c.is_done.ensures c.if-is_done.true }
