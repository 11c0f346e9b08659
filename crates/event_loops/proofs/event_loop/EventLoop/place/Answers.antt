use Rattle.std.proofs.Common.{[]}
use Rattle.link_service.specs.Clocks.{unasked}
use Rattle.link_service.specs.Transcripts.{counted_to}
use Rattle.event_loops.specs.Tales.{loop_view}
use Rattle.event_loops.proofs.Told.{goes_quietly, quiet_none}
use Rattle.event_loops.proofs.event_loop.EventLoop.place.Goals as goal
use Rattle.event_loops.proofs.event_loop.EventLoop.place.Goals.{then-not-hand_over, else-not-hand_over}

pub returns-clause-went : goal.returns-clause-went
returns-clause-went g c = λ most high. elim c.if-not-hand_over.branch [
  | then-not-hand_over w ↦ rw w.self-is (goes_quietly (loop_view g.P.Link.Link.tells g.P.Link.Link.given g.P.Link.Link.taken g.P.Ends.Ends.tells g.P.Ends.Ends.entries) (counted_to g.R.Reader.gives most) (unasked g.C.Calls.makes) _ _ _ [] 0 (w.lose.ensures.went most high))
  | else-not-hand_over w ↦ rw w.self-is (quiet_none (loop_view g.P.Link.Link.tells g.P.Link.Link.given g.P.Link.Link.taken g.P.Ends.Ends.tells g.P.Ends.Ends.entries) (counted_to g.R.Reader.gives most) (unasked g.C.Calls.makes) _ _)
]
