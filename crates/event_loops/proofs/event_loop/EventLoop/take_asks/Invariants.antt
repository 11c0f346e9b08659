use Rattle.std.proofs.Common.{◌≤◌}
use Rattle.link_service.specs.Clocks.{unasked}
use Rattle.link_service.specs.Transcripts.{ByReader}
use Rattle.event_loops.specs.Takings.{LeadsTaking}
use Rattle.event_loops.specs.Tales.{GoesOn, loop_view}
use Rattle.event_loops.proofs.event_loop.EventLoop.take_asks.Given as goal

abbrev pub invariant-loop : goal.invariant-loop
invariant-loop g l = record {
  went : ByReader g.R.Reader.gives (g.R.Reader.faults l.reader) (λ read. LeadsTaking (unasked g.C.Calls.makes) g.A.Takes.takes
      l.fn.calls l.calls l.fn.asks l.asks (g.R.Reader.faults l.fn.reader) (g.R.Reader.faults l.reader) (λ acts. GoesOn (loop_view g.P.Link.Link.tells g.P.Link.Link.given g.P.Link.Link.taken g.P.Ends.Ends.tells g.P.Ends.Ends.entries) read l.fn.self.links acts l.self.links));
  grows : g.R.Reader.faults l.fn.reader ≤ g.R.Reader.faults l.reader;
}
