use Rattle.worker_turns.proofs.CheckLemmas.{checked_none, checked_more, checked_all, checked_some}
use Rattle.worker_turns.proofs.checks.check_turn.Goals as goal

pub loop-count-init : goal.loop-count-init
loop-count-init g c = record { made = checked_none _ _ _ _; free = λ free. free }

pub returns-in-Ok-None-clause-made : goal.returns-in-Ok-None-clause-made
returns-in-Ok-None-clause-made g c =
    checked_all _ _ _ _ c.loop-count.count _ _ _ _ c.loop-count.invariant.made (rw c.in-Ok-None.field-0-is at c.in-Ok-None.ensures.made) c.reserve.ensures.items

pub returns-in-Err-check-clause-made : goal.returns-in-Err-check-clause-made
returns-in-Err-check-clause-made g c =
    checked_some _ _ _ _ c.in-Err-check.fault c.loop-count.count _ _ _ _ c.loop-count.invariant.made c.in-Err-check.ensures.made c.reserve.ensures.items

pub loop-count-preserved : goal.loop-count-preserved
loop-count-preserved g c = record {
  made = checked_more _ _ _ _ c.loop-count.count c.in-Ok-Some.checked _ _ _ _ _ c.loop-count.invariant.made (rw c.in-Ok-Some.field-0-is at c.in-Ok-Some.ensures.made) c.reserve.ensures.items c.hold.ensures;
  free = λ free. c.in-Ok-Some.ensures.free (c.loop-count.invariant.free free);
}
