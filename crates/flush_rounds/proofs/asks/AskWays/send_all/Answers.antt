use Rattle.std.proofs.Common.{refl}
use Rattle.flush_rounds.proofs.Asking.{put_none, put_one}
use Rattle.flush_rounds.proofs.asks.AskWays.send_all.Goals as goal

pub loop-ask-init : goal.loop-ask-init
loop-ask-init g c = put_none _ _ _ refl

pub loop-ask-preserved : goal.loop-ask-preserved
loop-ask-preserved g c = put_one _ _ _ _ _ _ c.in-Some.ask c.loop-ask.invariant c.in-Some.ensures.items c.send.ensures
