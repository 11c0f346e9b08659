use Rattle.worker_turns.proofs.ActLemmas.{free_step}
use Rattle.pipe_stream.proofs.RequestLemmas.{request_out}
use Rattle.pipe_stream.proofs.asking.give.Goals as goal

pub returns-clause-free : goal.returns-clause-free
returns-clause-free g c =
    free_step _ _ _ _ c.args.event.now c.apply.ensures.what _ g.met.C.Calls.key_stays g.met.C.Calls.shown_moves c.apply.ensures.made
    (request_out _ c.args.event.now c.apply.ensures.what c.requires.request) c.requires.free

pub apply-requires-clause-accepted : goal.apply-requires-clause-accepted
apply-requires-clause-accepted g c = c.requires.accepted (g.C.Calls.shown c.args.calls.now)
