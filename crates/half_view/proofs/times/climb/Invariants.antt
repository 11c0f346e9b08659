-- All nodes but the one above that which is looked at have the earlier one of the two below.
use Rattle.std.proofs.Common.{◌≡◌, ◌<◌, ◌/◌, length, get_or, drop}
use Rattle.half_view.specs.Times.{AreLeastBut}
use Rattle.half_view.proofs.times.climb.Given as goal

abbrev pub invariant-loop-node : goal.invariant-loop-node
invariant-loop-node l = record {
  within : l.node < length l.fn.nodes.items;
  size : length l.nodes.items ≡ length l.fn.nodes.items;
  least_is : l.least ≡ get_or l.nodes.items l.node 0;
  but : AreLeastBut l.nodes.items (l.node / 2);
  times : drop (length l.fn.nodes.items / 2) l.nodes.items ≡ drop (length l.fn.nodes.items / 2) l.fn.nodes.items;
}

abbrev pub decreases-loop-node : goal.decreases-loop-node
decreases-loop-node l = l.node
