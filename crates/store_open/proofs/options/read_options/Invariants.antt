-- The words so far are the command and what is said, and what is left stands behind them.
use Rattle.std.proofs.Common.{length}
use Rattle.store_open.proofs.OptionLemmas.{IsReadTo}
use Rattle.store_open.proofs.options.read_options.Given as goal

abbrev pub invariant-loop-name : goal.invariant-loop-name
invariant-loop-name l = IsReadTo l.fn.verb l.fn.words l.rest l.place l.settings

abbrev pub decreases-loop-name : goal.decreases-loop-name
decreases-loop-name l = length l.rest
