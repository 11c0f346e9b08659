-- The node is on the way from the root to the first time that has come.
use Rattle.half_view.proofs.TimeLemmas.{IsOnWay}
use Rattle.half_view.proofs.times.first_node.Given as goal

abbrev pub invariant-loop : goal.invariant-loop
invariant-loop l = IsOnWay l.fn.now l.nodes.items l.fn.height l.counter l.node
