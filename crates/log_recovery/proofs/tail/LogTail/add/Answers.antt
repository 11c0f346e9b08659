use Rattle.std.proofs.Common.{◌∙◌, sym, arith}
use Rattle.log_model.specs.Queues.{queue_end}
use Rattle.log_recovery.proofs.TailLemmas.{last_store_low}
use Rattle.log_recovery.proofs.tail.LogTail.add.Goals as goal

pub returns-clause-taken : goal.returns-clause-taken
returns-clause-taken c S log stands follows =
    c.in_ok-advance.ensures.moved S.base log c.args.view.now stands (record {
      next = c.queue_offset.ensures.value ∙ follows.queue_offset ∙ (λ i. queue_end S.base log (sym c.topic.ensures i) (sym c.queue.ensures i));
      later = last_store_low c.store.result log (λ k earlier got. omega (arith, follows.store k earlier got, c.store.ensures.value));
    }) (record {
      of_topic = sym c.topic.ensures;
      of_queue = sym c.queue.ensures;
      offset_is = sym c.offset.ensures.value;
      store_is = sym c.store.ensures.value;
      size_is = sym c.size-size.ensures;
    })
