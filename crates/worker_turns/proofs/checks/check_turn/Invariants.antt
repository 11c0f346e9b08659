use Rattle.worker_turns.specs.Acts.{IsFree}
use Rattle.worker_turns.proofs.CheckLemmas.{HasCheckedOnly}
use Rattle.worker_turns.proofs.checks.check_turn.Given as goal

abbrev pub invariant-loop-count : goal.invariant-loop-count
invariant-loop-count g l = record {
  made : HasCheckedOnly g.C.Calls.makes l.now l.initial.calls l.initial.held.items l.count l.calls l.held.items;
  free : IsFree (g.C.Calls.has_key l.initial.calls) (g.C.Calls.shown l.initial.calls) → IsFree (g.C.Calls.has_key l.calls) (g.C.Calls.shown l.calls);
}
