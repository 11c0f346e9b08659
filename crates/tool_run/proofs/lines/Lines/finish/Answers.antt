use Rattle.tool_run.proofs.WriteLemmas.{all_told, failed_broke}
use Rattle.tool_run.proofs.lines.Lines.finish.Goals as goal

pub returns-in-Ok-clause-all : goal.returns-in-Ok-clause-all
returns-in-Ok-clause-all g c = λ first text told yes. all_told g.K.Sink first c.flush.new.self text c.in-Ok.ensures.empty (c.in-Ok.ensures.told first text told)

pub returns-clause-failed : goal.returns-clause-failed
returns-clause-failed g c = λ first text told no. failed_broke g.K.Sink first c.flush.new.self text c.in-Err.ensures.failed (c.in-Err.ensures.broke first text told)
