use Rattle.flush_rounds.proofs.Delivering.{made_more, some_then, some_without}
use Rattle.flush_rounds.proofs.timetable.deliver_due.Goals as goal

pub returns-in-Ok-false-clause-made : goal.returns-in-Ok-false-clause-made
returns-in-Ok-false-clause-made g c =
    some_then _ _ c.loop-count.count _ _ _ c.loop-count.invariant.made (rw c.in-Ok-false.field-0-test at c.in-Ok-false.ensures.made)

pub returns-in-Err-clause-made : goal.returns-in-Err-clause-made
returns-in-Err-clause-made g c = some_without _ _ c.loop-count.count _ _ _ _ c.loop-count.invariant.made c.in-Err.ensures.made

pub loop-count-preserved : goal.loop-count-preserved
loop-count-preserved g c = record {
  made = made_more _ _ c.loop-count.count _ _ _ c.loop-count.invariant.made (rw c.in-Ok-true.field-0-test at c.in-Ok-true.ensures.made);
  free = λ free. c.in-Ok-true.ensures.free (c.loop-count.invariant.free free);
}
