use Rattle.std.proofs.Common.{refl}
use Rattle.flush_rounds.proofs.Asking.{puts_first, puts_second}
use Rattle.flush_rounds.proofs.asks.AskWays.put.Goals as goal

pub returns-then-to-eq0 : goal.returns-then-to-eq0
returns-then-to-eq0 c = puts_first _ _ c.args.ask c.put.result c.put.ensures.put c.put.ensures.dropped c.put.ensures.pair refl refl

pub returns-else-to-eq0 : goal.returns-else-to-eq0
returns-else-to-eq0 c =
    puts_second _ _ c.args.ask c.put-else-to-eq0.result c.put-else-to-eq0.ensures.put c.put-else-to-eq0.ensures.dropped c.put-else-to-eq0.ensures.pair refl refl
