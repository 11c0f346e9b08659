use Rattle.link_service.specs.Clocks.{unasked}
use Rattle.link_service.specs.Transcripts.{counted_to}
use Rattle.std.proofs.Common.{refl, ◌∙◌}
use Rattle.event_loops.proofs.Counting.{grow_none, grow_then, passed_on}
use Rattle.event_loops.proofs.Entering.{door_still, door_same, door_then}
use Rattle.event_loops.specs.Tales.{loop_view}
use Rattle.event_loops.proofs.Told.{quiet_kept, quiet_none, quiet_then}
use Rattle.event_loops.proofs.event_loop.EventLoop.let_in.Goals as goal

pub loop-init : goal.loop-init
loop-init g c = record {
  went = λ most high. quiet_none (loop_view g.P.Link.Link.tells g.P.Link.Link.given g.P.Link.Link.taken g.P.Ends.Ends.tells g.P.Ends.Ends.entries) (counted_to g.R.Reader.gives most) (unasked g.C.Calls.makes) _ _;
  clock = refl;
  door = door_still g.P.Door.Door.gave _;
  grow = grow_none _;
}

pub returns-in_err-came : goal.returns-in_err-came
returns-in_err-came g c = record {
  went = λ most high. quiet_kept (loop_view g.P.Link.Link.tells g.P.Link.Link.given g.P.Link.Link.taken g.P.Ends.Ends.tells g.P.Ends.Ends.entries) (counted_to g.R.Reader.gives most) (unasked g.C.Calls.makes) _ _ _ _ _ (c.loop.invariant.went most high) c.next_in.ensures.links;
  clock = c.next_in.ensures.clock ∙ c.loop.invariant.clock;
  door = door_then g.P.Door.Door.gave _ _ _ c.loop.invariant.door c.next_in.ensures.door;
  cause = passed_on c.from_residual.result _ _ _ _ c.from_residual.ensures.1 c.loop.invariant.grow c.in_err-came.ensures.cause;
}

pub returns-in_default : goal.returns-in_default
returns-in_default g c = record {
  went = λ most high. quiet_kept (loop_view g.P.Link.Link.tells g.P.Link.Link.given g.P.Link.Link.taken g.P.Ends.Ends.tells g.P.Ends.Ends.entries) (counted_to g.R.Reader.gives most) (unasked g.C.Calls.makes) _ _ _ _ _ (c.loop.invariant.went most high) c.next_in.ensures.links;
  clock = c.next_in.ensures.clock ∙ c.loop.invariant.clock;
  door = door_then g.P.Door.Door.gave _ _ _ c.loop.invariant.door c.next_in.ensures.door;
  cause = grow_then _ _ _ c.loop.invariant.grow c.in_ok-came.ensures.cause;
}

pub loop-preserved : goal.loop-preserved
loop-preserved g c = record {
  went = λ most high. quiet_then (loop_view g.P.Link.Link.tells g.P.Link.Link.given g.P.Link.Link.taken g.P.Ends.Ends.tells g.P.Ends.Ends.entries) (counted_to g.R.Reader.gives most) (unasked g.C.Calls.makes) _ _ _ _ _ _
      (quiet_kept (loop_view g.P.Link.Link.tells g.P.Link.Link.given g.P.Link.Link.taken g.P.Ends.Ends.tells g.P.Ends.Ends.entries) (counted_to g.R.Reader.gives most) (unasked g.C.Calls.makes) _ _ _ _ _ (c.loop.invariant.went most high) c.next_in.ensures.links) (c.place.ensures.went most high);
  clock = c.place.ensures.clock ∙ (c.next_in.ensures.clock ∙ c.loop.invariant.clock);
  door = door_then g.P.Door.Door.gave _ _ _ (door_then g.P.Door.Door.gave _ _ _ c.loop.invariant.door c.next_in.ensures.door) (door_same g.P.Door.Door.gave _ _ c.place.ensures.entrance);
  grow = grow_then _ _ _ (grow_then _ _ _ c.loop.invariant.grow c.in_ok-came.ensures.cause) c.place.ensures.grow;
}
