use Rattle.std.proofs.Common.{◌≡◌, drop, All}
use Rattle.serde_json.specs.View.{items_view}
use Rattle.request_fields.specs.Clients.{IsName}
use Rattle.request_fields.specs.Bodies.{all_of, producer_of}
use Rattle.request_fields.proofs.Items.{with_front}
use Rattle.request_fields.proofs.beat.producers_in.Given as goal

abbrev pub invariant-loop-item : goal.invariant-loop-item
invariant-loop-item l = record {
  found : with_front l.producers.items (all_of producer_of (items_view (drop l.item-index l.items))) ≡ all_of producer_of (items_view l.items);
  kept : All (IsName) l.producers.items;
}
