use Rattle.std.proofs.Common.{arith, refl}
use Rattle.std.proofs.lemmas.List.{with_items_is}
use Rattle.link_service.specs.Clocks.{unasked}
use Rattle.link_service.specs.Transcripts.{counted_to}
use Rattle.event_loops.specs.Tales.{loop_view}
use Rattle.event_loops.proofs.Told.{goes_by}
use Rattle.event_loops.proofs.links.Links.reply.Goals as goal

pub returns-clause-went : goal.returns-clause-went
returns-clause-went g c =
    λ most high. goes_by (loop_view g.L.Link.tells g.L.Link.given g.L.Link.taken g.N.Ends.tells g.N.Ends.entries) (counted_to g.R.Reader.gives most)
    (unasked g.C.Calls.makes) _ _ c.args.self.now _ c.as_mut_slice.result.now c.reply_each.new.slots _ _
    c.as_mut_slice.ensures.value (with_items_is c.args.self.now.slots c.reply_each.new.slots (omega (arith, c.reply_each.auto.slots, c.as_mut_slice.ensures.len))) (refl, refl, refl) (c.reply_each.ensures.went most high)
