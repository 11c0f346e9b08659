use Rattle.std.proofs.Common.{get_or, arith}
use Rattle.std.proofs.lemmas.Option.{slice_get-get_or}
use Rattle.link_service.specs.Clocks.{unasked}
use Rattle.link_service.specs.Transcripts.{counted_to}
use Rattle.event_loops.specs.Tales.{link_view, loop_view}
use Rattle.event_loops.proofs.Told.{replying_first, keeps_replying}
use Rattle.event_loops.proofs.links.reply_each.Goals as goal

pub loop-i-init : goal.loop-i-init
loop-i-init g c = record {
  went = λ most high. replying_first (link_view g.L.Link.tells g.L.Link.given g.L.Link.taken) (counted_to g.R.Reader.gives most) (unasked g.C.Calls.makes) (loop_view g.L.Link.tells g.L.Link.given g.L.Link.taken g.N.Ends.tells g.N.Ends.entries) _ _ _ _;
  grows = omega arith;
}

pub loop-i-preserved : goal.loop-i-preserved
loop-i-preserved g c =
    let slots = c.loop-i.slots in
    let there = c.index-slots-i.result in
    record {
      went = λ most high.
          keeps_replying (link_view g.L.Link.tells g.L.Link.given g.L.Link.taken) (counted_to g.R.Reader.gives most) (unasked g.C.Calls.makes) (loop_view g.L.Link.tells g.L.Link.given g.L.Link.taken g.N.Ends.tells g.N.Ends.entries) c.args.calls.now c.loop-i.calls c.reply_slot.new.calls
          c.args.slots.now slots c.loop-i.i (get_or slots c.loop-i.i there) c.reply_slot.new.slot c.args.ledger.now c.loop-i.ledger c.reply_slot.new.ledger _ _ _
          (slice_get-get_or slots c.loop-i.i there (omega arith)) (c.loop-i.invariant.went most (omega (arith, high, c.reply_slot.ensures.grows))) (c.reply_slot.ensures.went most high);
      grows = omega (arith, c.loop-i.invariant.grows, c.reply_slot.ensures.grows);
    }
