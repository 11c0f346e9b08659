use Rattle.std.proofs.Common.{arith}
use Rattle.link_service.specs.Clocks.{unasked}
use Rattle.link_service.specs.Transcripts.{counted_to}
use Rattle.link_service.proofs.Went.{goes_asking, goes_silent}
use Rattle.link_service.proofs.linked.Linked.ask.Goals as goal

pub returns-then-not-can_answer : goal.returns-then-not-can_answer
returns-then-not-can_answer g c = record {
  went = λ most high. goes_silent (unasked g.C.Calls.makes) g.L.Link.tells (counted_to g.R.Reader.gives most) _ _ _ c.args.ask.now;
  grows = omega arith;
}

pub returns : goal.returns
returns g c = record {
  went = λ most high. goes_asking (unasked g.C.Calls.makes) g.L.Link.tells (counted_to g.R.Reader.gives most) _ _ _ _ _ _ _ _ (c.settle.ensures.went most high)
      (c.put_ask.ensures most (omega arith));
  grows = c.settle.ensures.grows;
}
