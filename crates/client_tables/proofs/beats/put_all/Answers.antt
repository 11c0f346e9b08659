use Rattle.std.proofs.Common.{◌∙◌}
use Rattle.client_tables.specs.Kept.{in_groups}
use Rattle.client_tables.proofs.BeatLemmas.{all_on}
use Rattle.client_tables.proofs.beats.put_all.Goals as goal

pub loop-consumer-preserved : goal.loop-consumer-preserved
loop-consumer-preserved c = record {
  put = λ g t.
      c.in_ok-put_group.ensures.put g t
      ∙ all_on c.args.beat c.args.client.now g t c.args.consumers.now c.loop-consumer.consumer-index c.consumer-item.result (in_groups c.args.groups.now g t) (in_groups c.loop-consumer.groups g t)
      c.loop-consumer-test.true c.consumer-item.is (c.loop-consumer.invariant.put g t);
  rest = λ g t. c.put_group.ensures.rest g t ∙ c.loop-consumer.invariant.rest g t;
}

pub returns-in_err-put_group-clause-rest : goal.returns-in_err-put_group-clause-rest
returns-in_err-put_group-clause-rest c = λ g t. c.put_group.ensures.rest g t ∙ c.loop-consumer.invariant.rest g t
