use Rattle.std.proofs.Common.{arith, refl}
use Rattle.std.proofs.lemmas.List.{with_items_is}
use Rattle.link_service.specs.Clocks.{at_reading}
use Rattle.link_service.specs.Transcripts.{counted_to}
use Rattle.event_loops.specs.Tales.{loop_view}
use Rattle.event_loops.proofs.Told.{goes_hearing}
use Rattle.event_loops.proofs.links.Links.hear_links.Goals as goal

pub returns : goal.returns
returns g c = record {
  went = λ most high. goes_hearing (loop_view g.L.Link.tells g.L.Link.given g.L.Link.taken g.N.Ends.tells g.N.Ends.entries) (counted_to g.R.Reader.gives most)
      (at_reading c.args.now g.C.Calls.makes) _ _ c.args.self.now _ c.as_mut_slice.result.now c.hear_each.new.slots
      c.as_mut_slice.ensures.value (with_items_is c.args.self.now.slots c.hear_each.new.slots (omega (arith, c.hear_each.auto.slots, c.as_mut_slice.ensures.len))) (refl, refl, refl) refl (c.hear_each.ensures.went most high);
}
