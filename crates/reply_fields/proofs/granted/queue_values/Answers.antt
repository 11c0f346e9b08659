use Rattle.reply_fields.proofs.GrantedLemmas.{values_next}
use Rattle.reply_fields.proofs.granted.queue_values.Goals as goal

pub loop-queue-preserved : goal.loop-queue-preserved
loop-queue-preserved c =
    values_next c.loop-queue.values.items c.push.new.self.items c.args.queues.now c.loop-queue.queue-index c.in_ok-queue_value.field-0 c.queue-item.result c.queue-item.is c.loop-queue-test.true c.loop-queue.invariant
    c.in_ok-queue_value.ensures c.in_ok-push.ensures.items
