use Rattle.std.proofs.Common.{inl, ap}
use Rattle.mq_outside.proofs.Moments.{rests_start, rests_call}
use Rattle.tool_run.proofs.RunLemmas.{not_wrong, refused_as, unopened_causes}
use Rattle.tool_run.proofs.run.run_tool.Goals as goal

pub returns-in-Err-clause-complete : goal.returns-in-Err-clause-complete
returns-in-Err-clause-complete g c = λ sound. absurd (not_wrong c.args.tool _ c.in-Err.place sound.asked.0 sound.asked.1 c.in-Err.ensures.wrong)

pub returns-in-Err-open_format-clause-did : goal.returns-in-Err-open_format-clause-did
returns-in-Err-open_format-clause-did g c = λ fits. inl (record {
  line = c.end_unopened.ensures.line;
  nothing = λ own. ap g.K.Sink.taken (c.end_unopened.ensures.nothing own);
  refused = refused_as c.end_unopened.result.status c.in-Err-open_format.status _ _ _ _ c.end_unopened.ensures.status c.in-Err-open_format.ensures.cause;
})

pub returns-in-Err-open_format-clause-rests : goal.returns-in-Err-open_format-clause-rests
returns-in-Err-open_format-clause-rests g c = λ tells. rests_call (rests_start _) (c.in-Err-open_format.ensures.rests tells)

pub returns-in-Err-open_format-clause-causes : goal.returns-in-Err-open_format-clause-causes
returns-in-Err-open_format-clause-causes g c =
    unopened_causes c.end_unopened.result.status c.in-Err-open_format.status _ _ c.end_unopened.ensures.status c.in-Err-open_format.ensures.cause
