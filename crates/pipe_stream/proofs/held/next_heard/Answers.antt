use Rattle.pipe_stream.proofs.HeldLemmas.{hears_next, hears_fault}
use Rattle.pipe_stream.proofs.held.next_heard.Goals as goal

pub returns-in-Ok : goal.returns-in-Ok
returns-in-Ok c = hears_next c.in-Ok.heard _ _ c.in-Ok.ensures.hears

pub returns-in-Err : goal.returns-in-Err
returns-in-Err c = rw c.halt_of.ensures (hears_fault c.in-Err.fault _ _ c.in-Err.ensures.hears)
