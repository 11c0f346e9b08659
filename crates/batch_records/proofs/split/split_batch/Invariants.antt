use Rattle.std.proofs.Common.{◌≡◌, length}
use Rattle.batch_records.specs.Reading.{messages_in}
use Rattle.batch_records.proofs.BatchReading.{with_messages}
use Rattle.batch_records.proofs.split.split_batch.Given as goal

abbrev pub invariant-loop-alloc : goal.invariant-loop-alloc
invariant-loop-alloc l = with_messages l.messages.items l.rest ≡ messages_in l.fn.body.items

abbrev pub decreases-loop-alloc : goal.decreases-loop-alloc
decreases-loop-alloc l = length l.rest
