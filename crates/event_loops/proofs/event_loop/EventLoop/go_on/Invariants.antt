use Rattle.std.proofs.Common.{◌≤◌}
use Rattle.link_service.specs.Transcripts.{ByReader}
use Rattle.event_loops.specs.Causes.{Grow, loop_faults}
use Rattle.event_loops.specs.Doors.{KeepsDoor}
use Rattle.event_loops.specs.Takings.{LeadsTaking}
use Rattle.event_loops.specs.Tales.{loop_view}
use Rattle.event_loops.specs.Timing.{GoesTimed, clock_over}
use Rattle.event_loops.proofs.event_loop.EventLoop.go_on.Given as goal

abbrev pub invariant-loop : goal.invariant-loop
invariant-loop g l = record {
  next : (goal.iterator-loop g).can_next l.iterator';
  finite : (goal.iterator-loop g).is_finite l.iterator';
  went : ByReader g.R.Reader.gives (g.R.Reader.faults l.reader) (λ read. LeadsTaking g.C.Calls.makes g.A.Takes.takes l.fn.calls l.calls l.fn.asks l.asks
      (g.R.Reader.faults l.fn.reader) (g.R.Reader.faults l.reader)
      (λ acts. GoesTimed (loop_view g.P.Link.Link.tells g.P.Link.Link.given g.P.Link.Link.taken g.P.Ends.Ends.tells g.P.Ends.Ends.entries) read
      (clock_over g.K.Clock.tells (g.K.Clock.readings l.fn.outside.clock) (g.K.Clock.readings l.outside.clock)) l.fn.self.links acts l.self.links));
  grows : g.R.Reader.faults l.fn.reader ≤ g.R.Reader.faults l.reader;
  door : KeepsDoor g.P.Door.Door.gave l.fn.outside.entrance l.outside.entrance;
  grow : Grow (loop_faults g.P.Ready.faults g.P.Door.Door.faults g.K.Clock.faults l.fn.outside)
      (loop_faults g.P.Ready.faults g.P.Door.Door.faults g.K.Clock.faults l.outside);
}
