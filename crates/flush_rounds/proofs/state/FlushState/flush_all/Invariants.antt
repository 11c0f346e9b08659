use Rattle.worker_turns.specs.Acts.{view_of}
use Rattle.flush_rounds.specs.Timing.{clock_view}
use Rattle.flush_rounds.specs.Working.{Worked}
use Rattle.flush_rounds.proofs.state.FlushState.flush_all.Given as goal

abbrev pub invariant-loop : goal.invariant-loop
invariant-loop g l = record {
  next : (goal.iterator-loop g).can_next l.iterator';
  finite : (goal.iterator-loop g).is_finite l.iterator';
  worked : Worked g.C.Calls.makes g.C.Calls.has_key g.C.Calls.shown (view_of g.D.Disk.tells g.D.Disk.state g.D.Disk.faults g.D.Disk.syncs)
      (clock_view g.K.Clock.tells g.K.Clock.readings) l.fn.self l.self;
}
