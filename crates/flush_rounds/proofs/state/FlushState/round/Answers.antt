use Rattle.flush_rounds.proofs.Working.{worked_then}
use Rattle.flush_rounds.proofs.state.FlushState.round.Goals as goal

pub attend-requires-clause-key : goal.attend-requires-clause-key
attend-requires-clause-key g c κs within = c.flush_all-end.ensures.ready.key

pub attend-requires-clause-none_out : goal.attend-requires-clause-none_out
attend-requires-clause-none_out g c κs within = c.flush_all-end.ensures.ready.none_out

pub attend-requires-clause-inside : goal.attend-requires-clause-inside
attend-requires-clause-inside g c κs within = c.flush_all-end.ensures.ready.inside

pub returns : goal.returns
returns g c = worked_then g.C.Calls.makes g.C.Calls.has_key g.C.Calls.shown _ _ _ _ _ c.flush_all-end.ensures c.attend.ensures
