use Rattle.pipe_stream.proofs.TellingLemmas.{told_by, told_nobody}
use Rattle.pipe_stream.proofs.telling.tell.Goals as goal

pub returns-then-caller-clause-told : goal.returns-then-caller-clause-told
returns-then-caller-clause-told g c = told_nobody _ _ _ _ _ _ c.if-caller.true

pub returns-clause-told : goal.returns-clause-told
returns-clause-told g c = told_by _ _ _ _ _ _ _ _ c.write_reply.result c.if-caller.false c.write_reply.ensures.told
