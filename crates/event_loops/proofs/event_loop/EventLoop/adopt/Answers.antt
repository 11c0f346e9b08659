use Rattle.std.proofs.Common.{[]}
use Rattle.link_service.specs.Clocks.{unasked}
use Rattle.link_service.specs.Transcripts.{counted_to}
use Rattle.event_loops.specs.Tales.{loop_view}
use Rattle.event_loops.proofs.Told.{goes_quietly, goes_then, quiet_first}
use Rattle.event_loops.proofs.event_loop.EventLoop.adopt.Goals as goal

pub returns-then-not-may_have-clause-went : goal.returns-then-not-may_have-clause-went
returns-then-not-may_have-clause-went g c = λ most high.
    goes_quietly (loop_view g.P.Link.Link.tells g.P.Link.Link.given g.P.Link.Link.taken g.P.Ends.Ends.tells g.P.Ends.Ends.entries) (counted_to g.R.Reader.gives most) (unasked g.C.Calls.makes) _ _ _ [] 0 (c.lose.ensures.went most high)

pub returns-in-Some-clause-went : goal.returns-in-Some-clause-went
returns-in-Some-clause-went g c = λ most high.
    goes_quietly (loop_view g.P.Link.Link.tells g.P.Link.Link.given g.P.Link.Link.taken g.P.Ends.Ends.tells g.P.Ends.Ends.entries) (counted_to g.R.Reader.gives most) (unasked g.C.Calls.makes) _ _ _ [] 0
    (goes_then (loop_view g.P.Link.Link.tells g.P.Link.Link.given g.P.Link.Link.taken g.P.Ends.Ends.tells g.P.Ends.Ends.entries) (counted_to g.R.Reader.gives most) _ _ _ (c.slot_for.ensures.went most high) (c.put.ensures.went most high))

pub returns-in-None-clause-went : goal.returns-in-None-clause-went
returns-in-None-clause-went g c = λ most high.
    quiet_first (loop_view g.P.Link.Link.tells g.P.Link.Link.given g.P.Link.Link.taken g.P.Ends.Ends.tells g.P.Ends.Ends.entries) (counted_to g.R.Reader.gives most) (unasked g.C.Calls.makes) _ _ _ _ _ (c.slot_for.ensures.went most high) (c.refuse.ensures.went most high)
