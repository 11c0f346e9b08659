use Rattle.link_service.specs.Clocks.{unasked}
use Rattle.link_service.specs.Transcripts.{counted_to}
use Rattle.std.proofs.Common.{[], ◌∙◌}
use Rattle.event_loops.proofs.Counting.{grow_none, grow_then, passed_on}
use Rattle.event_loops.proofs.Entering.{door_same, door_then}
use Rattle.event_loops.specs.Tales.{loop_view}
use Rattle.event_loops.proofs.Told.{goes_from, goes_nowhere_to, goes_quietly, quiet_first, quiet_then}
use Rattle.event_loops.proofs.event_loop.EventLoop.gather.Goals as goal

pub returns-in_err-wait : goal.returns-in_err-wait
returns-in_err-wait g c = record {
  went = λ most high. goes_quietly (loop_view g.P.Link.Link.tells g.P.Link.Link.given g.P.Link.Link.taken g.P.Ends.Ends.tells g.P.Ends.Ends.entries) (counted_to g.R.Reader.gives most) (unasked g.C.Calls.makes) _ _ _ [] 0 (goes_nowhere_to (loop_view g.P.Link.Link.tells g.P.Link.Link.given g.P.Link.Link.taken g.P.Ends.Ends.tells g.P.Ends.Ends.entries) (counted_to g.R.Reader.gives most) _ _ c.wait.ensures.links);
  clock = c.wait.ensures.clock;
  door = door_same g.P.Door.Door.gave _ _ c.wait.ensures.entrance;
  cause = passed_on c.from_residual.result _ _ _ _ c.from_residual.ensures.1 (grow_none _) c.in_err-wait.ensures.cause;
}

pub returns-in_err-ask_door : goal.returns-in_err-ask_door
returns-in_err-ask_door g c = record {
  went = λ most high. quiet_first (loop_view g.P.Link.Link.tells g.P.Link.Link.given g.P.Link.Link.taken g.P.Ends.Ends.tells g.P.Ends.Ends.entries) (counted_to g.R.Reader.gives most) (unasked g.C.Calls.makes) _ _ _ _ _
      (goes_from (loop_view g.P.Link.Link.tells g.P.Link.Link.given g.P.Link.Link.taken g.P.Ends.Ends.tells g.P.Ends.Ends.entries) (counted_to g.R.Reader.gives most) _ _ _ c.wait.ensures.links (c.note_reports.ensures.went most high)) (c.ask_door.ensures.went most high);
  clock = c.ask_door.ensures.clock ∙ c.wait.ensures.clock;
  door = door_then g.P.Door.Door.gave _ _ _ (door_same g.P.Door.Door.gave _ _ c.wait.ensures.entrance) c.ask_door.ensures.door;
  cause = passed_on c.from_residual-in_err-ask_door.result _ _ _ _ c.from_residual-in_err-ask_door.ensures.1 c.in_ok-wait.ensures.cause c.in_err-ask_door.ensures.cause;
}

pub returns : goal.returns
returns g c = record {
  went = λ most high. quiet_first (loop_view g.P.Link.Link.tells g.P.Link.Link.given g.P.Link.Link.taken g.P.Ends.Ends.tells g.P.Ends.Ends.entries) (counted_to g.R.Reader.gives most) (unasked g.C.Calls.makes) _ _ _ _ _
      (goes_from (loop_view g.P.Link.Link.tells g.P.Link.Link.given g.P.Link.Link.taken g.P.Ends.Ends.tells g.P.Ends.Ends.entries) (counted_to g.R.Reader.gives most) _ _ _ c.wait.ensures.links (c.note_reports.ensures.went most high))
      (quiet_then (loop_view g.P.Link.Link.tells g.P.Link.Link.given g.P.Link.Link.taken g.P.Ends.Ends.tells g.P.Ends.Ends.entries) (counted_to g.R.Reader.gives most) (unasked g.C.Calls.makes) _ _ _ _ _ _ (c.ask_door.ensures.went most high) (c.take_in.ensures.went most high));
  clock = c.take_in.ensures.clock ∙ (c.ask_door.ensures.clock ∙ c.wait.ensures.clock);
  door = door_then g.P.Door.Door.gave _ _ _ (door_then g.P.Door.Door.gave _ _ _ (door_same g.P.Door.Door.gave _ _ c.wait.ensures.entrance) c.ask_door.ensures.door) (door_same g.P.Door.Door.gave _ _ c.take_in.ensures.entrance);
  cause = grow_then _ _ _ (grow_then _ _ _ c.in_ok-wait.ensures.cause c.in_ok-ask_door.ensures.cause) c.take_in.ensures.grow;
}
