use Rattle.std.proofs.Common.{get_or, arith}
use Rattle.std.proofs.lemmas.Option.{slice_get-get_or}
use Rattle.link_service.specs.Clocks.{at_reading}
use Rattle.link_service.specs.Transcripts.{counted_to}
use Rattle.event_loops.specs.Tales.{link_view}
use Rattle.event_loops.proofs.Told.{keeps_first, keeps_slot}
use Rattle.event_loops.proofs.links.hear_each.Goals as goal

pub loop-i-init : goal.loop-i-init
loop-i-init g c = λ most high. keeps_first (link_view g.L.Link.tells g.L.Link.given g.L.Link.taken) (counted_to g.R.Reader.gives most) (at_reading c.args.now g.C.Calls.makes) _ _

pub loop-i-preserved : goal.loop-i-preserved
loop-i-preserved g c =
    let slots = c.loop-i.slots in
    let there = c.index-slots-i.result in
    λ most high. keeps_slot (link_view g.L.Link.tells g.L.Link.given g.L.Link.taken) (counted_to g.R.Reader.gives most) (at_reading c.args.now g.C.Calls.makes) c.args.calls.now c.loop-i.calls c.hear_slot-any.new.calls
    c.args.slots.now slots c.loop-i.i (get_or slots c.loop-i.i there) c.hear_slot-any.new.slot (slice_get-get_or slots c.loop-i.i there (omega arith))
    (c.loop-i.invariant most high) (c.hear_slot-any.ensures.went most high)
