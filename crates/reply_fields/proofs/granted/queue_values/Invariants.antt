use Rattle.std.proofs.Common.{◌≡◌, take}
use Rattle.serde_json.specs.View.{items_view}
use Rattle.reply_fields.specs.Granted.{queues_items}
use Rattle.reply_fields.proofs.granted.queue_values.Given as goal

abbrev pub invariant-loop-queue : goal.invariant-loop-queue
invariant-loop-queue l = items_view l.values.items ≡ queues_items (take l.queue-index l.queues)
