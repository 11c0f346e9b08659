use Rattle.std.proofs.Common.{arith}
use Rattle.std.proofs.lemmas.Grind.{common_steps}
use Rattle.request_fields.proofs.lock.queues_in.Goals as goal

pub loop-item-preserved : goal.loop-item-preserved
loop-item-preserved c = record {
  found = grind (arith, common_steps);
  kept = grind (arith, common_steps);
  count = grind (arith, common_steps);
}

pub returns-in_err-queue_name_in-clause-queues : goal.returns-in_err-queue_name_in-clause-queues
returns-in_err-queue_name_in-clause-queues c = grind (arith, common_steps)
