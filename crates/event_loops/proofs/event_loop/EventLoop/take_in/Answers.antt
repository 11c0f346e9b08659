use Rattle.link_service.specs.Clocks.{unasked}
use Rattle.link_service.specs.Transcripts.{counted_to}
use Rattle.std.proofs.Common.{refl, ◌∙◌}
use Rattle.event_loops.proofs.Counting.{grow_none, grow_then}
use Rattle.event_loops.specs.Tales.{loop_view}
use Rattle.event_loops.proofs.Told.{quiet_none, quiet_then}
use Rattle.event_loops.proofs.event_loop.EventLoop.take_in.Goals as goal

pub loop-init : goal.loop-init
loop-init g c = record {
  went = λ most high. quiet_none (loop_view g.P.Link.Link.tells g.P.Link.Link.given g.P.Link.Link.taken g.P.Ends.Ends.tells g.P.Ends.Ends.entries) (counted_to g.R.Reader.gives most) (unasked g.C.Calls.makes) _ _;
  clock = refl;
  entrance = refl;
  grow = grow_none _;
}

pub loop-preserved : goal.loop-preserved
loop-preserved g c = record {
  went = λ most high. quiet_then (loop_view g.P.Link.Link.tells g.P.Link.Link.given g.P.Link.Link.taken g.P.Ends.Ends.tells g.P.Ends.Ends.entries) (counted_to g.R.Reader.gives most) (unasked g.C.Calls.makes) _ _ _ _ _ _ (c.loop.invariant.went most high) (c.adopt.ensures.went most high);
  clock = c.adopt.ensures.clock ∙ c.loop.invariant.clock;
  entrance = c.adopt.ensures.entrance ∙ c.loop.invariant.entrance;
  grow = grow_then _ _ _ c.loop.invariant.grow c.adopt.ensures.grow;
}

pub returns-in_default-clause-went : goal.returns-in_default-clause-went
returns-in_default-clause-went g c = λ most high. quiet_none (loop_view g.P.Link.Link.tells g.P.Link.Link.given g.P.Link.Link.taken g.P.Ends.Ends.tells g.P.Ends.Ends.entries) (counted_to g.R.Reader.gives most) (unasked g.C.Calls.makes) _ _
