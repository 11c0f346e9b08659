use Rattle.std.proofs.Common.{arith}
use Rattle.link_service.specs.Clocks.{unasked}
use Rattle.link_service.specs.Transcripts.{counted_to}
use Rattle.link_service.proofs.Went.{unread_same, goes_on, goes_quietly}
use Rattle.link_service.proofs.linked.Linked.reply.Goals as goal

pub loop-init : goal.loop-init
loop-init g c = record {
  went = λ most high. goes_quietly (unasked g.C.Calls.makes) g.L.Link.tells (counted_to g.R.Reader.gives most) _ _ _ _ (unread_same _ _);
  grows = omega arith;
}

pub returns-then-is_empty : goal.returns-then-is_empty
returns-then-is_empty g c = record {
  went = λ most high. goes_on (unasked g.C.Calls.makes) g.L.Link.tells (counted_to g.R.Reader.gives most) _ _ _ _ _ _ _ _ _
      (c.loop.invariant.went most (omega (arith, high, c.settle_below.ensures.grows))) (c.settle_below.ensures.went most high);
  grows = omega (arith, c.loop.invariant.grows, c.settle_below.ensures.grows);
}

pub returns-then-not-is_empty : goal.returns-then-not-is_empty
returns-then-not-is_empty g c = record {
  went = λ most high. goes_on (unasked g.C.Calls.makes) g.L.Link.tells (counted_to g.R.Reader.gives most) _ _ _ _ _ _ _ _ _
      (goes_on (unasked g.C.Calls.makes) g.L.Link.tells (counted_to g.R.Reader.gives most) _ _ _ _ _ _ _ _ _
      (c.loop.invariant.went most (omega (arith, high, c.settle_below.ensures.grows))) (c.settle_below.ensures.went most high))
      (goes_quietly (unasked g.C.Calls.makes) g.L.Link.tells (counted_to g.R.Reader.gives most) _ _ _ _ c.write.ensures.went);
  grows = omega (arith, c.loop.invariant.grows, c.settle_below.ensures.grows);
}

pub loop-preserved : goal.loop-preserved
loop-preserved g c = record {
  went = λ most high. goes_on (unasked g.C.Calls.makes) g.L.Link.tells (counted_to g.R.Reader.gives most) _ _ _ _ _ _ _ _ _
      (goes_on (unasked g.C.Calls.makes) g.L.Link.tells (counted_to g.R.Reader.gives most) _ _ _ _ _ _ _ _ _
      (c.loop.invariant.went most (omega (arith, high, c.settle_below.ensures.grows))) (c.settle_below.ensures.went most high))
      (goes_quietly (unasked g.C.Calls.makes) g.L.Link.tells (counted_to g.R.Reader.gives most) _ _ _ _ c.write.ensures.went);
  grows = omega (arith, c.loop.invariant.grows, c.settle_below.ensures.grows);
}
