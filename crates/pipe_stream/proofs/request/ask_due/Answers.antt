use Rattle.std.proofs.Common.{refl}
use Rattle.pipe_stream.proofs.DueLemmas.{due_broken, due_asked}
use Rattle.pipe_stream.proofs.request.ask_due.Goals as goal

pub returns-in-Err-clause-asked : goal.returns-in-Err-clause-asked
returns-in-Err-clause-asked g c = λ reads. due_broken _ _ _ c.args.now c.in-Err.broken c.stop_of.result _ _ _ _ c.stop_of.ensures c.in-Err.ensures.acted refl

pub returns-in-Ok-clause-asked : goal.returns-in-Ok-clause-asked
returns-in-Ok-clause-asked g c = λ reads.
    due_asked _ _ _ c.args.now c.in-Ok.asks.items c.write_asks.result _ _ _ _ c.in-Ok.ensures.acted
    (rw c.as_slice.ensures.value at c.write_asks.ensures.written) (rw c.as_slice.ensures.value at c.write_asks.ensures.counted) c.write_asks.ensures.ends
