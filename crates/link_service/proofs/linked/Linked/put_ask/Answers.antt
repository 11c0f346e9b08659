use Rattle.std.proofs.Common.{refl}
use Rattle.link_service.specs.Transcripts.{counted_to}
use Rattle.link_service.proofs.Went.{went_asking, went_silent}
use Rattle.link_service.proofs.linked.Linked.put_ask.Goals as goal

pub returns-then-not-can_answer : goal.returns-then-not-can_answer
returns-then-not-can_answer g c = λ most high. went_silent g.L.Link.tells (counted_to g.R.Reader.gives most) _ c.args.ask.now

pub returns : goal.returns
returns g c = λ most high.
    went_asking g.L.Link.tells (counted_to g.R.Reader.gives most) _ _ c.args.ask.now c.ask.result (c.can_answer.ensures c.if-not-can_answer.false) (c.can_answer.ensures c.if-not-can_answer.false)
    c.ask.ensures (λ told. refl) (λ told. refl)
