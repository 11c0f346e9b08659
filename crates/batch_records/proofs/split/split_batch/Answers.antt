use Rattle.std.proofs.Common.{◌<◌, List, length, ap, ◌∙◌, arith, rules}
use Rattle.batch_records.specs.declared.message.Message.{Message}
use Rattle.batch_records.proofs.BatchReading.{with_messages, first_shorter, messages_step}
use Rattle.batch_records.proofs.split.split_batch.Goals as goal

pub loop-alloc-smaller : goal.loop-alloc-smaller
loop-alloc-smaller c =
    let some : 0 < length c.loop-alloc.rest = search rules in
    let shorter = first_shorter c.loop-alloc.rest (c.in_ok-message.message, c.take_message.new.rest) c.in_ok-message.ensures in
    omega (arith, shorter, some)

pub loop-alloc-preserved : goal.loop-alloc-preserved
loop-alloc-preserved c =
    let some : 0 < length c.loop-alloc.rest = search rules in
    ap (λ (w : List Message). with_messages w c.take_message.new.rest) c.in_ok-push.ensures.items
    ∙ messages_step c.loop-alloc.messages.items c.in_ok-message.message c.loop-alloc.rest c.take_message.new.rest c.in_ok-message.ensures some ∙ c.loop-alloc.invariant
