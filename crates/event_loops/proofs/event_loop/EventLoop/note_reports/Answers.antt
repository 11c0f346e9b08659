use Rattle.link_service.specs.Transcripts.{counted_to}
use Rattle.std.proofs.Common.{refl, ◌∙◌, arith}
use Rattle.event_loops.specs.Tales.{loop_view}
use Rattle.event_loops.proofs.Told.{goes_nowhere, goes_then}
use Rattle.event_loops.proofs.event_loop.EventLoop.note_reports.Goals as goal

pub loop-i-init : goal.loop-i-init
loop-i-init g c = record {
  events = refl;
  went = λ most high. goes_nowhere (loop_view g.P.Link.Link.tells g.P.Link.Link.given g.P.Link.Link.taken g.P.Ends.Ends.tells g.P.Ends.Ends.entries) (counted_to g.R.Reader.gives most) _;
}

pub index-requires : goal.index-requires
index-requires g c = omega (arith, c.loop-i.invariant.events)

pub loop-i-preserved : goal.loop-i-preserved
loop-i-preserved g c = record {
  events = c.note_report.ensures.events ∙ c.loop-i.invariant.events;
  went = λ most high. goes_then (loop_view g.P.Link.Link.tells g.P.Link.Link.given g.P.Link.Link.taken g.P.Ends.Ends.tells g.P.Ends.Ends.entries) (counted_to g.R.Reader.gives most) _ _ _ (c.loop-i.invariant.went most high) (c.note_report.ensures.went most high);
}
