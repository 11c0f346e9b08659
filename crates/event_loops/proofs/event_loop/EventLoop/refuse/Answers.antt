use Rattle.std.proofs.Common.{[]}
use Rattle.link_service.specs.Clocks.{unasked}
use Rattle.link_service.specs.Transcripts.{counted_to}
use Rattle.event_loops.specs.Tales.{loop_view}
use Rattle.event_loops.proofs.Told.{goes_quietly}
use Rattle.event_loops.proofs.event_loop.EventLoop.refuse.Goals as goal

pub returns-then-not-may_have-clause-went : goal.returns-then-not-may_have-clause-went
returns-then-not-may_have-clause-went g c = λ most high.
    goes_quietly (loop_view g.P.Link.Link.tells g.P.Link.Link.given g.P.Link.Link.taken g.P.Ends.Ends.tells g.P.Ends.Ends.entries) (counted_to g.R.Reader.gives most) (unasked g.C.Calls.makes) _ _ _ [] 0 (c.lose.ensures.went most high)
