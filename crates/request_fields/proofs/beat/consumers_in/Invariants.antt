use Rattle.std.proofs.Common.{◌≡◌, drop, All}
use Rattle.serde_json.specs.View.{items_view}
use Rattle.request_fields.specs.Clients.{IsName}
use Rattle.request_fields.specs.Bodies.{all_of, consumer_of}
use Rattle.request_fields.proofs.Items.{with_front}
use Rattle.request_fields.proofs.beat.consumers_in.Given as goal

abbrev pub invariant-loop-item : goal.invariant-loop-item
invariant-loop-item l = record {
  found : with_front l.consumers.items (all_of consumer_of (items_view (drop l.item-index l.items))) ≡ all_of consumer_of (items_view l.items);
  kept : All (λ c. IsName c.group) l.consumers.items;
}
