use Rattle.std.proofs.Common.{refl}
use Rattle.flush_rounds.proofs.Asking.{looks_ripen, ripens_none}
use Rattle.flush_rounds.proofs.asks.AskWays.ripen.Goals as goal

pub returns-in-Ok-clause-made : goal.returns-in-Ok-clause-made
returns-in-Ok-clause-made g c = looks_ripen g.C.Calls.makes _ _ _ _ _ _ c.new-ripe.ensures.items c.in-Ok.ensures.looked refl refl

pub returns-in-Err-clause-made : goal.returns-in-Err-clause-made
returns-in-Err-clause-made g c =
    let still = c.in-Err.ensures.still in ripens_none g.C.Calls.makes _ _ _ _ _ still.0 c.new.ensures.items still.1 refl refl
