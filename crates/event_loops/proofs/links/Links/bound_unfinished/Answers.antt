use Rattle.std.proofs.Common.{arith, refl}
use Rattle.std.proofs.lemmas.List.{with_items_is}
use Rattle.link_service.specs.Transcripts.{counted_to}
use Rattle.event_loops.specs.Tales.{loop_view}
use Rattle.event_loops.proofs.Told.{goes_breaking}
use Rattle.event_loops.proofs.links.Links.bound_unfinished.Goals as goal

pub returns : goal.returns
returns g c = record {
  went = λ most high. goes_breaking (loop_view g.L.Link.tells g.L.Link.given g.L.Link.taken g.N.Ends.tells g.N.Ends.entries) (counted_to g.R.Reader.gives most)
      c.args.self.now _ c.as_mut_slice.result.now c.break_largest.new.slots
      c.as_mut_slice.ensures.value (with_items_is c.args.self.now.slots c.break_largest.new.slots (omega (arith, c.break_largest.auto.slots, c.as_mut_slice.ensures.len)))
      (refl, refl, refl) refl (c.break_largest.ensures.went most high);
}
