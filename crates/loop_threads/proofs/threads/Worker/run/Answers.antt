use Rattle.std.proofs.Common.{arith}
use Rattle.loop_threads.proofs.threads.Worker.run.Goals as goal

pub returns-clause-went : goal.returns-clause-went
returns-clause-went g c = record { went = c.run-end.ensures.went (g.R.Reader.faults c.run-end.new.reader) (omega arith); none = c.run-end.ensures.none }
