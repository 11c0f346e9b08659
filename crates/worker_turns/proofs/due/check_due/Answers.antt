use Rattle.worker_turns.proofs.CheckLemmas.{check_acted}
use Rattle.worker_turns.proofs.due.check_due.Goals as goal

pub returns-clause-acted : goal.returns-clause-acted
returns-clause-acted g c = check_acted _ _ _ _ _ _ c.check_turn.result _ _ c.check_turn.ensures.made
