use Rattle.worker_turns.proofs.DueLemmas.{due_acted, due_broke}
use Rattle.worker_turns.proofs.due.due_turns.Goals as goal

pub returns-in_default-check_due-clause-acted : goal.returns-in_default-check_due-clause-acted
returns-in_default-check_due-clause-acted g c = due_broke _ _ (Unit {0}) c.args.now c.args.held.now.items c.check_due.new.held.items _ _ _ _ _ _ _ _ c.in-Ok.ensures.acted c.in_default-check_due.ensures.acted

pub returns-clause-acted : goal.returns-clause-acted
returns-clause-acted g c =
    due_acted _ _ c.args.now c.in-Ok._delivered c.in-Ok-check_due._checked _ _ c.flush_and_dispatch.result _ _ _ _ _ _ c.in-Ok.ensures.acted c.in-Ok-check_due.ensures.acted
    c.flush_and_dispatch.ensures.acted
