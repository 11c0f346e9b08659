use Rattle.std.proofs.Common.{refl}
use Rattle.flush_rounds.proofs.Asking.{checks_ask}
use Rattle.flush_rounds.proofs.asks.AskWays.check.Goals as goal

pub returns-clause-made : goal.returns-clause-made
returns-clause-made g c = checks_ask g.C.Calls.makes _ _ _ _ _ c.check_turn.result c.check_turn.ensures.made refl refl
