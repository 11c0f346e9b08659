use Rattle.std.proofs.Common.{◌≡◌, drop}
use Rattle.serde_json.specs.View.{items_view}
use Rattle.request_fields.specs.Bodies.{all_of, subscription_of}
use Rattle.request_fields.proofs.Items.{with_front}
use Rattle.request_fields.proofs.beat.subscriptions_in.Given as goal

abbrev pub invariant-loop-item : goal.invariant-loop-item
invariant-loop-item l = with_front l.subscriptions.items (all_of subscription_of (items_view (drop l.item-index l.items))) ≡ all_of subscription_of (items_view l.items)
