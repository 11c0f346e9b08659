use Rattle.tool_run.proofs.ends.end_whole.Goals as goal

pub returns-then-is_written-clause-done : goal.returns-then-is_written-clause-done
returns-then-is_written-clause-done g c = λ first text told code. c.finish-sink.ensures.all first text told c.if-is_written.true

pub returns-clause-failed : goal.returns-clause-failed
returns-clause-failed g c = λ first text told code. c.finish-sink.ensures.failed first text told c.if-is_written.false
