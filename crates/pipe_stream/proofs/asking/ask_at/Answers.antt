use Rattle.pipe_stream.proofs.asking.ask_at.Goals as goal

pub ask-answer-requires-clause-accepted : goal.ask-answer-requires-clause-accepted
ask-answer-requires-clause-accepted g c = λ shown. (c.requires.now, c.requires.served)
