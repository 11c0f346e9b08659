use Rattle.link_service.specs.Clocks.{at_reading}
use Rattle.link_service.specs.Transcripts.{counted_to}
use Rattle.event_loops.specs.Tales.{loop_view}
use Rattle.event_loops.proofs.Told.{quiet_last}
use Rattle.event_loops.proofs.links.Links.hear.Goals as goal

pub returns : goal.returns
returns g c = record {
  went = λ most high. quiet_last (loop_view g.L.Link.tells g.L.Link.given g.L.Link.taken g.N.Ends.tells g.N.Ends.entries) (counted_to g.R.Reader.gives most)
      (at_reading c.args.now g.C.Calls.makes) _ _ c.args.self.now _ _ (c.hear_links-any.ensures.went most high) (c.bound_unfinished.ensures.went most high);
}
