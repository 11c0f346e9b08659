use Rattle.std.proofs.Common.{arith}
use Rattle.link_service.specs.Clocks.{unasked}
use Rattle.link_service.specs.Transcripts.{counted_to}
use Rattle.event_loops.specs.Tales.{loop_view}
use Rattle.event_loops.proofs.Told.{goes_nowhere, taking_nothing, taking_one, taking_until}
use Rattle.event_loops.proofs.event_loop.EventLoop.take_asks.Goals as goal

pub loop-init : goal.loop-init
loop-init g c = record {
  went = λ most high. taking_nothing (loop_view g.P.Link.Link.tells g.P.Link.Link.given g.P.Link.Link.taken g.P.Ends.Ends.tells g.P.Ends.Ends.entries) (counted_to g.R.Reader.gives most) (unasked g.C.Calls.makes) g.A.Takes.takes g.met.A.Takes.takes_none _ _ _ _ _
      (goes_nowhere (loop_view g.P.Link.Link.tells g.P.Link.Link.given g.P.Link.Link.taken g.P.Ends.Ends.tells g.P.Ends.Ends.entries) (counted_to g.R.Reader.gives most) _);
  grows = omega arith;
}

pub returns-in_default-clause-went : goal.returns-in_default-clause-went
returns-in_default-clause-went g c = λ most high. taking_until (loop_view g.P.Link.Link.tells g.P.Link.Link.given g.P.Link.Link.taken g.P.Ends.Ends.tells g.P.Ends.Ends.entries) (counted_to g.R.Reader.gives most) (unasked g.C.Calls.makes) g.A.Takes.takes g.met.A.Takes.takes_more _ _ _ _ _ _ _ _ _
    (c.loop.invariant.went most high) (rw c.in_default.is at c.take.ensures)

pub loop-preserved : goal.loop-preserved
loop-preserved g c = record {
  went = λ most high. taking_one (loop_view g.P.Link.Link.tells g.P.Link.Link.given g.P.Link.Link.taken g.P.Ends.Ends.tells g.P.Ends.Ends.entries) (counted_to g.R.Reader.gives most) (unasked g.C.Calls.makes) g.A.Takes.takes g.met.A.Takes.takes_more _ _ _ _ _ _ _ _ _ c.in-Ask.next _ _ _
      (c.loop.invariant.went most (omega (arith, high, c.ask.ensures.grows))) (rw c.in-Ask.is at c.take.ensures) (c.ask.ensures.went most high);
  grows = omega (arith, c.loop.invariant.grows, c.ask.ensures.grows);
}
