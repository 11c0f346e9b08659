use Rattle.pipe_stream.proofs.TellingLemmas.{for_answer, broken_before, told_behind}
use Rattle.pipe_stream.proofs.request.tell_behind.Goals as goal

pub returns-in-Err-clause-answered : goal.returns-in-Err-clause-answered
returns-in-Err-clause-answered g c = λ answer is.
    broken_before _ c.args.caller answer c.in-Err.broken c.stop_of.result _ _ _ _ _ _ _ c.stop_of.ensures c.in-Err.ensures.acted

pub returns-in-Ok-clause-answered : goal.returns-in-Ok-clause-answered
returns-in-Ok-clause-answered g c = λ answer is.
    for_answer _ c.args.caller answer _ c.tell.result _ _ _ _ is (told_behind _ c.args.caller c.args.reply c.in-Ok.told c.args.awaits c.tell.result _ _ _ _ _ _ _ _ _ c.in-Ok.ensures.acted c.tell.ensures.told)
