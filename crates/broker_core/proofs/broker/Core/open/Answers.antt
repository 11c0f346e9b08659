use Rattle.broker_core.proofs.broker.Core.open.Goals as goal

pub invariant_of-result : goal.invariant_of-result
invariant_of-result c = (_, c.open.ensures.represents c.requires.some.0 c.requires.some.1 c.requires.some.2)
