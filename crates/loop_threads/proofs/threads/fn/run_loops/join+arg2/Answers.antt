use Rattle.loop_threads.proofs.threads.fn.run_loops.join+arg2.Goals as goal

pub returns : goal.returns
returns g c = record { went = c.run.ensures.went; door = c.run.ensures.door; cause = c.run.ensures.cause }
