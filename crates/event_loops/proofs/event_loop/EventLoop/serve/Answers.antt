use Rattle.std.proofs.Common.{arith}
use Rattle.link_service.specs.Clocks.{at_reading}
use Rattle.link_service.specs.Transcripts.{counted_to}
use Rattle.event_loops.specs.Tales.{link_view, loop_view}
use Rattle.event_loops.proofs.Timing.{led_whenever}
use Rattle.event_loops.proofs.Told.{goes_leading, led_any}
use Rattle.event_loops.proofs.event_loop.EventLoop.serve.Goals as goal

pub returns-clause-went : goal.returns-clause-went
returns-clause-went g c = λ most high. goes_leading (loop_view g.P.Link.Link.tells g.P.Link.Link.given g.P.Link.Link.taken g.P.Ends.Ends.tells g.P.Ends.Ends.entries) (counted_to g.R.Reader.gives most) (at_reading c.args.now g.C.Calls.makes) _ _ _ _ _ _ _ _ _ _ _
    (led_any (link_view g.P.Link.Link.tells g.P.Link.Link.given g.P.Link.Link.taken) (counted_to g.R.Reader.gives most) (at_reading c.args.now g.C.Calls.makes) _ _ _ _ _ (c.hear-given.ensures.went most (omega arith)))
    (led_whenever g.C.Calls.makes c.args.now _ _ _ _ _ _ (c.reply.ensures.went most high))
