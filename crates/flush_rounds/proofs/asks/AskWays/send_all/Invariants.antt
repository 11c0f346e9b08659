use Rattle.std.specs.Vec.Iter.{into_iter_items, into_iter_len}
use Rattle.flush_rounds.proofs.Asking.{PutsSoFar}
use Rattle.flush_rounds.proofs.asks.AskWays.send_all.Given as goal

abbrev pub invariant-loop-ask : goal.invariant-loop-ask
invariant-loop-ask g l = PutsSoFar l.fn.self (into_iter_items l.initial.asks) (into_iter_items l.asks) l.self

abbrev pub decreases-loop-ask : goal.decreases-loop-ask
decreases-loop-ask g l = into_iter_len l.asks
