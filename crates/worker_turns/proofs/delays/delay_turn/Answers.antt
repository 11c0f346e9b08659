use Rattle.worker_turns.proofs.DelayLemmas.{made_all, made_some, made_more}
use Rattle.worker_turns.proofs.delays.delay_turn.Goals as goal

pub returns-in-Ok-false-clause-made : goal.returns-in-Ok-false-clause-made
returns-in-Ok-false-clause-made g c =
    made_all _ _ _ c.loop-count.count _ _ c.loop-count.invariant.made (rw c.in-Ok-false.field-0-test at c.in-Ok-false.ensures.made)

pub returns-in-Err-clause-made : goal.returns-in-Err-clause-made
returns-in-Err-clause-made g c = made_some _ _ _ c.in-Err.fault c.loop-count.count _ _ c.loop-count.invariant.made c.in-Err.ensures.made

pub loop-count-preserved : goal.loop-count-preserved
loop-count-preserved g c = record {
  made = made_more _ _ _ c.loop-count.count _ _ c.loop-count.invariant.made (rw c.in-Ok-true.field-0-test at c.in-Ok-true.ensures.made);
  free = λ free. c.in-Ok-true.ensures.free (c.loop-count.invariant.free free);
}
