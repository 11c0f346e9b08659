use Rattle.link_service.specs.Transcripts.{counted_to}
use Rattle.std.proofs.Common.{refl, is_ok}
use Rattle.event_loops.specs.Tales.{loop_view}
use Rattle.event_loops.proofs.Told.{goes_pushing}
use Rattle.event_loops.proofs.links.Links.add_slot.Goals as goal

pub returns-clause-went : goal.returns-clause-went
returns-clause-went g c = λ most high. goes_pushing (loop_view g.L.Link.tells g.L.Link.given g.L.Link.taken g.N.Ends.tells g.N.Ends.entries) (counted_to g.R.Reader.gives most) c.args.self.now _ (is_ok c.push.result) (refl, refl, refl, c.push.ensures.items) refl
