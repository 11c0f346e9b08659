use Rattle.flush_rounds.specs.Timing.{AreNotDue}
use Rattle.flush_rounds.proofs.Asking.{no_asking, handed_out}
use Rattle.flush_rounds.proofs.asks.AskWays.hand_out.Goals as goal

pub returns-then-is_empty-clause-made : goal.returns-then-is_empty-clause-made
returns-then-is_empty-clause-made g c = no_asking g.C.Calls.makes AreNotDue tt _ _

pub returns-clause-made : goal.returns-clause-made
returns-clause-made g c = handed_out g.C.Calls.makes _ _ _ _ _ _ c.ripen-ripe.ensures.made c.send_all.ensures
