use Rattle.std.proofs.Common.{refl}
use Rattle.pipe_stream.proofs.DueLemmas.{closed_whole, closed_broke, counts_closing}
use Rattle.pipe_stream.proofs.closing.close.Goals as goal

pub returns-in_default-clause-closed : goal.returns-in_default-clause-closed
returns-in_default-clause-closed g c = record { still = record { calls = refl; place = refl }; took = λ told. refl; read = c.in_default.ensures.still }

pub returns-in-Ok-ask_due-clause-closed : goal.returns-in-Ok-ask_due-clause-closed
returns-in-Ok-ask_due-clause-closed g c = closed_whole _ _ _ _ c.in-Ok.now _ _ _ _ _ _ _ _ _ _ (c.in-Ok-ask_due.ensures.asked 0) c.in-Ok.ensures.given

pub returns-in-Err-clause-closed : goal.returns-in-Err-clause-closed
returns-in-Err-clause-closed g c = closed_broke _ _ _ _ c.in-Ok.now _ _ _ _ _ _ _ _ _ _ c.in-Err.stop (c.in-Err.ensures.asked 0) c.in-Ok.ensures.given

pub returns-in-Err-clause-cause : goal.returns-in-Err-clause-cause
returns-in-Err-clause-cause g c = counts_closing c.in-Err.stop _ _ _ _ c.in-Err.ensures.cause
