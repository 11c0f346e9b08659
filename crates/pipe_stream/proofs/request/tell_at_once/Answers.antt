use Rattle.pipe_stream.proofs.TellingLemmas.{for_answer, broken_at_once, told_at_once, broken_behind}
use Rattle.std.proofs.Common.{Err}
use Rattle.pipe_stream.proofs.request.tell_at_once.Goals as goal

pub returns-in-Err-clause-answered : goal.returns-in-Err-clause-answered
returns-in-Err-clause-answered g c = λ answer is.
    for_answer _ c.args.caller {A = Unit {0}} answer _ (Err c.in-Err.stop) _ _ _ _ is (broken_at_once _ c.args.caller c.args.reply c.in-Err.stop _ _ _ _ _ _ _ c.in-Err.ensures.told)

pub returns-in-Ok-flush_and_dispatch-clause-answered : goal.returns-in-Ok-flush_and_dispatch-clause-answered
returns-in-Ok-flush_and_dispatch-clause-answered g c = λ answer is.
    rw is (told_at_once _ c.args.caller c.args.reply _ _ _ _ _ _ _ _ _ c.in-Ok.ensures.told c.in-Ok-flush_and_dispatch.ensures.acted)

pub returns-in-Err-flush_and_dispatch-clause-answered : goal.returns-in-Err-flush_and_dispatch-clause-answered
returns-in-Err-flush_and_dispatch-clause-answered g c = λ answer is.
    broken_behind _ c.args.caller answer c.args.reply c.in-Err-flush_and_dispatch.broken c.stop_of.result _ _ _ _ _ _ _ _ _ is c.stop_of.ensures c.in-Ok.ensures.told
    c.in-Err-flush_and_dispatch.ensures.acted
