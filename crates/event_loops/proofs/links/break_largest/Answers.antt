use Rattle.std.proofs.Common.{get_or, arith}
use Rattle.std.proofs.lemmas.Option.{slice_get-get_or}
use Rattle.link_service.specs.Transcripts.{counted_to}
use Rattle.event_loops.specs.Tales.{link_view}
use Rattle.event_loops.proofs.Told.{keeps_all, keeps_breaking}
use Rattle.event_loops.proofs.links.break_largest.Goals as goal

pub loop-init : goal.loop-init
loop-init g c = λ most high. keeps_all (link_view g.L.Link.tells g.L.Link.given g.L.Link.taken) (counted_to g.R.Reader.gives most) _

pub loop-preserved : goal.loop-preserved
loop-preserved g c =
    let slots = c.loop.slots in
    let at = c.unfinished_in-sum.result.1 in
    let there = c.index-slots-at.result in
    λ most high. keeps_breaking (link_view g.L.Link.tells g.L.Link.given g.L.Link.taken) (counted_to g.R.Reader.gives most) c.args.slots.now slots at (get_or slots at there)
    c.break_slot.new.slot (slice_get-get_or slots at there (omega arith)) (c.loop.invariant most high) c.break_slot.ensures
