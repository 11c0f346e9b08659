use Rattle.std.proofs.Common.{subst}
use Rattle.worker_turns.specs.Acts.{view_of}
use Rattle.flush_rounds.specs.Timing.{clock_view}
use Rattle.flush_rounds.specs.Working.{Worked}
use Rattle.flush_rounds.proofs.Working.{worked_then}
use Rattle.flush_rounds.proofs.caller.FlushCallerFlushStateFlushes.flush.Goals as goal

pub end-requires-clause-represented : goal.end-requires-clause-represented
end-requires-clause-represented g c =
    let view = view_of g.D.Disk.tells g.D.Disk.state g.D.Disk.faults g.D.Disk.syncs in
    let clock = clock_view g.K.Clock.tells g.K.Clock.readings in
    let new = c.turn-end.new.self in
    let did = subst (λ it. Worked g.C.Calls.makes g.C.Calls.has_key g.C.Calls.shown view clock it new) c.state.ensures.value c.turn-end.ensures in
    rw c.enter-turn.ensures.story (worked_then g.C.Calls.makes g.C.Calls.has_key g.C.Calls.shown view clock _ c.enter-turn.result.state new c.enter-turn.ensures.finds.represented did)
