use Rattle.link_service.specs.Clocks.{unasked}
use Rattle.link_service.specs.Transcripts.{counted_to}
use Rattle.std.proofs.Common.{refl, sym, ◌∙◌, append-nil}
use Rattle.event_loops.specs.Tales.{loop_view}
use Rattle.event_loops.proofs.Told.{goes_still, quiet_last, quiet_none, quiet_popped, quiet_then}
use Rattle.event_loops.proofs.links.Links.let_go.Goals as goal

pub loop-slot-init : goal.loop-slot-init
loop-slot-init g c = λ most high. quiet_none (loop_view g.L.Link.tells g.L.Link.given g.L.Link.taken g.N.Ends.tells g.N.Ends.entries) (counted_to g.R.Reader.gives most) (unasked g.C.Calls.makes) _ _

pub loop-slot-preserved : goal.loop-slot-preserved
loop-slot-preserved g c = λ most high.
    quiet_then (loop_view g.L.Link.tells g.L.Link.given g.L.Link.taken g.N.Ends.tells g.N.Ends.entries) (counted_to g.R.Reader.gives most) (unasked g.C.Calls.makes) _ _ _ _ c.loop-slot.self _ (c.loop-slot.invariant most high)
    (quiet_popped (loop_view g.L.Link.tells g.L.Link.given g.L.Link.taken g.N.Ends.tells g.N.Ends.entries) (counted_to g.R.Reader.gives most) (unasked g.C.Calls.makes) _ _ c.loop-slot.self _ c.in-Some.slot (refl, refl, refl) c.in-Some.ensures.items c.end_slot.ensures.enters c.end_slot.ensures.left)

pub returns-clause-went : goal.returns-clause-went
returns-clause-went g c = λ most high.
    quiet_last (loop_view g.L.Link.tells g.L.Link.given g.L.Link.taken g.N.Ends.tells g.N.Ends.entries) (counted_to g.R.Reader.gives most) (unasked g.C.Calls.makes) _ _ _ c.loop-slot.self _ (c.loop-slot.invariant most high)
    (goes_still (loop_view g.L.Link.tells g.L.Link.given g.L.Link.taken g.N.Ends.tells g.N.Ends.entries) (counted_to g.R.Reader.gives most) c.loop-slot.self _ (refl, refl, refl, sym (c.in_default.ensures.items ∙ append-nil c.pop.new.self.items)) refl)
