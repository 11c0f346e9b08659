use Rattle.std.proofs.Common.{Some}
use Rattle.link_service.specs.Clocks.{unasked}
use Rattle.link_service.specs.Transcripts.{counted_to}
use Rattle.event_loops.specs.Tales.{link_view, loop_view}
use Rattle.event_loops.proofs.Told.{slot_left, slot_stays}
use Rattle.event_loops.proofs.links.reply_slot.Goals as goal

pub returns-clause-went : goal.returns-clause-went
returns-clause-went g c =
    λ most high. slot_left (link_view g.L.Link.tells g.L.Link.given g.L.Link.taken) (counted_to g.R.Reader.gives most) (unasked g.C.Calls.makes)
    (loop_view g.L.Link.tells g.L.Link.given g.L.Link.taken g.N.Ends.tells g.N.Ends.entries) _ _ c.args.slot.now _ c.take.result c.in-Some.numbered c.reply_one.new.numbered
    c.args.ledger.now _ _ _ c.in-Some.is c.take.ensures.after c.take.ensures.value (c.reply_one.ensures.left c.if-not-reply_one.false most high) c.let_go.ensures

pub returns-then-not-reply_one-clause-went : goal.returns-then-not-reply_one-clause-went
returns-then-not-reply_one-clause-went g c = rw c.in-Some.is (λ most high.
    slot_stays (link_view g.L.Link.tells g.L.Link.given g.L.Link.taken) (counted_to g.R.Reader.gives most) (unasked g.C.Calls.makes) (loop_view g.L.Link.tells g.L.Link.given g.L.Link.taken g.N.Ends.tells g.N.Ends.entries) _ _ (Some c.in-Some.numbered) (Some c.reply_one.new.numbered) c.args.ledger.now _ _
    (c.reply_one.ensures.replied c.if-not-reply_one.true most high))
