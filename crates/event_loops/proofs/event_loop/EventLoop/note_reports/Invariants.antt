use Rattle.std.proofs.Common.{◌≡◌, []}
use Rattle.std.specs.Vec.{vec_len}
use Rattle.link_service.specs.Transcripts.{ByReader}
use Rattle.event_loops.specs.Tales.{GoesOn, loop_view}
use Rattle.event_loops.proofs.event_loop.EventLoop.note_reports.Given as goal

abbrev pub invariant-loop-i : goal.invariant-loop-i
invariant-loop-i g l = record {
  events : vec_len l.self.events ≡ vec_len l.fn.self.events;
  went : ByReader g.R.Reader.gives 0 (λ read. GoesOn (loop_view g.P.Link.Link.tells g.P.Link.Link.given g.P.Link.Link.taken g.P.Ends.Ends.tells g.P.Ends.Ends.entries) read l.fn.self.links [] l.self.links);
}
