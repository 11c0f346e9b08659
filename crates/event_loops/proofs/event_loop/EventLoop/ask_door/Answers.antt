use Rattle.link_service.specs.Clocks.{unasked}
use Rattle.link_service.specs.Transcripts.{counted_to}
use Rattle.event_loops.specs.Tales.{loop_view}
use Rattle.event_loops.proofs.Told.{quiet_none}
use Rattle.event_loops.proofs.event_loop.EventLoop.ask_door.Goals as goal

pub returns-then-not-take_retry-clause-went : goal.returns-then-not-take_retry-clause-went
returns-then-not-take_retry-clause-went g c = λ most high. quiet_none (loop_view g.P.Link.Link.tells g.P.Link.Link.given g.P.Link.Link.taken g.P.Ends.Ends.tells g.P.Ends.Ends.entries) (counted_to g.R.Reader.gives most) (unasked g.C.Calls.makes) _ _
