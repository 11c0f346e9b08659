use Rattle.worker_turns.specs.Acts.{IsFree}
use Rattle.flush_rounds.proofs.Delivering.{HasMadeOnly}
use Rattle.flush_rounds.proofs.timetable.deliver_due.Given as goal

abbrev pub invariant-loop-count : goal.invariant-loop-count
invariant-loop-count g l = record {
  made : HasMadeOnly g.C.Calls.makes l.now l.initial.calls l.count l.calls;
  free : IsFree (g.C.Calls.has_key l.initial.calls) (g.C.Calls.shown l.initial.calls) → IsFree (g.C.Calls.has_key l.calls) (g.C.Calls.shown l.calls);
}
