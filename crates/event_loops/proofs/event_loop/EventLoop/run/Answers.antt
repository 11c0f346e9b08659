use Rattle.std.proofs.Common.{arith}
use Rattle.link_service.specs.Transcripts.{counted_to}
use Rattle.event_loops.specs.Tales.{loop_view}
use Rattle.event_loops.proofs.Timing.{timed_off}
use Rattle.event_loops.proofs.event_loop.EventLoop.run.Goals as goal

pub returns-clause-went : goal.returns-clause-went
returns-clause-went g c = λ most high. timed_off g.C.Calls.makes g.A.Takes.takes (loop_view g.P.Link.Link.tells g.P.Link.Link.given g.P.Link.Link.taken g.P.Ends.Ends.tells g.P.Ends.Ends.entries) (counted_to g.R.Reader.gives most) g.K.Clock.tells _ _ _ _ _ _ _ _ _ _ _ _
    (c.go_on-end.ensures.went most high) (c.let_go.ensures.went most (omega arith))
