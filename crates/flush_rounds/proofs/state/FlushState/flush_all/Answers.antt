use Rattle.flush_rounds.proofs.Working.{worked_none, worked_then}
use Rattle.flush_rounds.proofs.state.FlushState.flush_all.Goals as goal

pub loop-init : goal.loop-init
loop-init g c = record {
  next = tt;
  finite = tt;
  worked = worked_none g.C.Calls.makes g.C.Calls.has_key g.C.Calls.shown _ _ _ c.requires;
}

pub turn-end-requires : goal.turn-end-requires
turn-end-requires g c = c.loop.invariant.worked.ready

pub returns-then-is_idle : goal.returns-then-is_idle
returns-then-is_idle g c = worked_then g.C.Calls.makes g.C.Calls.has_key g.C.Calls.shown _ _ _ _ _ c.loop.invariant.worked c.turn-end.ensures

pub returns-then-ne : goal.returns-then-ne
returns-then-ne g c = worked_then g.C.Calls.makes g.C.Calls.has_key g.C.Calls.shown _ _ _ _ _ c.loop.invariant.worked c.turn-end.ensures

pub loop-preserved : goal.loop-preserved
loop-preserved g c = record {
  next = tt;
  finite = tt;
  worked = worked_then g.C.Calls.makes g.C.Calls.has_key g.C.Calls.shown _ _ _ _ _ c.loop.invariant.worked c.turn-end.ensures;
}
