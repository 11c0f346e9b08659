use Rattle.std.proofs.Common.{arith}
use Rattle.link_service.specs.Clocks.{unasked}
use Rattle.link_service.specs.Transcripts.{counted_to}
use Rattle.link_service.proofs.Went.{unread_same, goes_quietly}
use Rattle.link_service.proofs.linked.Linked.settle_below.Goals as goal

pub returns-then-not-is_due_below : goal.returns-then-not-is_due_below
returns-then-not-is_due_below g c = record {
  went = λ most high. goes_quietly (unasked g.C.Calls.makes) g.L.Link.tells (counted_to g.R.Reader.gives most) _ _ _ _ (unread_same _ _);
  grows = omega arith;
}
