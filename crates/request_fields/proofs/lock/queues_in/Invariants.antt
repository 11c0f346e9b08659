use Rattle.std.proofs.Common.{◌≡◌, drop, length, All}
use Rattle.serde_json.specs.View.{items_view}
use Rattle.request_fields.specs.Requests.{IsQueueName}
use Rattle.request_fields.specs.Bodies.{all_of, queue_name_of}
use Rattle.request_fields.proofs.Items.{with_front}
use Rattle.request_fields.proofs.lock.queues_in.Given as goal

abbrev pub invariant-loop-item : goal.invariant-loop-item
invariant-loop-item l = record {
  found : with_front l.queues.items (all_of queue_name_of (items_view (drop l.item-index l.items))) ≡ all_of queue_name_of (items_view l.items);
  kept : All (IsQueueName) l.queues.items;
  count : length l.queues.items ≡ l.item-index;
}
