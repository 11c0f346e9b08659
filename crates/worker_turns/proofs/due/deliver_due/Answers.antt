use Rattle.worker_turns.proofs.DelayLemmas.{delay_acted}
use Rattle.worker_turns.proofs.due.deliver_due.Goals as goal

pub returns-clause-acted : goal.returns-clause-acted
returns-clause-acted g c = delay_acted _ _ _ _ c.delay_turn.result _ _ c.delay_turn.ensures.made
