use Rattle.pipe_stream.proofs.request.answer_request.Goals as goal

pub returns-in-None-clause-answered : goal.returns-in-None-clause-answered
returns-in-None-clause-answered g c = c.tell_at_once.ensures.answered c.args.answer (λ i. record { reply = c.args.answer.reply; awaits = c.in-None.is i })

pub returns-in-Some-clause-answered : goal.returns-in-Some-clause-answered
returns-in-Some-clause-answered g c = c.tell_behind.ensures.answered c.args.answer (λ i. record { reply = c.args.answer.reply; awaits = c.in-Some.is i })
