use Rattle.std.proofs.Common.{◌≡◌}
use Rattle.link_service.specs.Clocks.{unasked}
use Rattle.link_service.specs.Transcripts.{ByReader}
use Rattle.event_loops.specs.Causes.{Grow, loop_faults}
use Rattle.event_loops.specs.Tales.{GoesOn, LeadsBy, loop_view}
use Rattle.event_loops.proofs.event_loop.EventLoop.take_in.Given as goal

abbrev pub invariant-loop : goal.invariant-loop
invariant-loop g l = record {
  went : ByReader g.R.Reader.gives 0 (λ read. LeadsBy (unasked g.C.Calls.makes) l.fn.calls l.calls 0 0
      (λ acts. GoesOn (loop_view g.P.Link.Link.tells g.P.Link.Link.given g.P.Link.Link.taken g.P.Ends.Ends.tells g.P.Ends.Ends.entries) read l.fn.self.links acts l.self.links));
  clock : l.outside.clock ≡ l.fn.outside.clock;
  entrance : l.outside.entrance ≡ l.fn.outside.entrance;
  grow : Grow (loop_faults g.P.Ready.faults g.P.Door.Door.faults g.K.Clock.faults l.fn.outside)
      (loop_faults g.P.Ready.faults g.P.Door.Door.faults g.K.Clock.faults l.outside);
}
