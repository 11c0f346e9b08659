use Rattle.std.proofs.Common.{◌∙◌, arith}
use Rattle.mq_outside.proofs.Moments.{rests_start, rests_call}
use Rattle.broker_serve.proofs.run.give_back.Goals as goal

pub returns-clause-alike : goal.returns-clause-alike
returns-clause-alike g c = record {
  rests = λ tells. rests_call (rests_call (rests_start _) (c.take_back.ensures.moves tells)) (c.take_back-2.ensures.moves tells);
  faults = c.take_back-2.ensures.faults ∙ c.take_back.ensures.faults;
  syncs = c.take_back-2.ensures.syncs ∙ c.take_back.ensures.syncs;
}

pub returns-clause-counted : goal.returns-clause-counted
returns-clause-counted g c = omega (arith, c.take_back.ensures.reader_faults, c.take_back-2.ensures.reader_faults)
