use Rattle.loop_threads.proofs.threads.fn.run_loops.join+arg3.Goals as goal

pub returns : goal.returns
returns g c = record { went = c.run.ensures.went; cause = c.run.ensures.cause }
