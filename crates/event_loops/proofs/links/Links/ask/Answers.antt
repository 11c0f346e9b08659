use Rattle.std.proofs.Common.{◌<◌, length, refl, arith}
use Rattle.std.proofs.lemmas.Option.{slice_get_read, slice_get_within}
use Rattle.link_service.specs.Clocks.{unasked}
use Rattle.link_service.specs.Transcripts.{counted_to}
use Rattle.event_loops.specs.Tales.{loop_view}
use Rattle.event_loops.proofs.Told.{goes_nowhere, goes_quietly, goes_at}
use Rattle.event_loops.proofs.links.Links.ask.Goals as goal

pub returns-in_default-clause-went : goal.returns-in_default-clause-went
returns-in_default-clause-went g c = λ most high. goes_quietly (loop_view g.L.Link.tells g.L.Link.given g.L.Link.taken g.N.Ends.tells g.N.Ends.entries) (counted_to g.R.Reader.gives most) (unasked g.C.Calls.makes) _ _ _ _ _ (goes_nowhere (loop_view g.L.Link.tells g.L.Link.given g.L.Link.taken g.N.Ends.tells g.N.Ends.entries) (counted_to g.R.Reader.gives most) _)

pub returns-clause-went : goal.returns-clause-went
returns-clause-went g c = λ most high.
    let slots = c.args.self.now.slots in
    let there = rw c.in-Some.is at c.slot_of.ensures in
    let within : c.in-Some.at < length c.as_slice.result.now = slice_get_within c.as_slice.result.now c.in-Some.at there.0 there.1 in
    goes_at (loop_view g.L.Link.tells g.L.Link.given g.L.Link.taken g.N.Ends.tells g.N.Ends.entries) (counted_to g.R.Reader.gives most) (unasked g.C.Calls.makes) _ _ c.args.self.now _ c.in-Some.at c.index_mut-slot.result.now c.ask_slot.new.slot _ _ _
    (refl, refl, refl, refl) refl (slice_get_read slots.items slots.len c.in-Some.at c.index_mut-slot.result.now slots.ok.0 (omega (arith, within)) c.index_mut-slot.ensures.value)
    (c.ask_slot.ensures.went most high)
