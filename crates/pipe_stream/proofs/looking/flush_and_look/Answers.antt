use Rattle.pipe_stream.proofs.AskLemmas.{looks_told}
use Rattle.pipe_stream.proofs.looking.flush_and_look.Goals as goal

pub returns-in-Err-clause-acted : goal.returns-in-Err-clause-acted
returns-in-Err-clause-acted g c =
    record { acts = c.in-Err.ensures.acted.acts; kind = c.in-Err.ensures.acted.kind; happened = c.in-Err.ensures.acted.happened }

pub returns-in-Ok-clause-acted : goal.returns-in-Ok-clause-acted
returns-in-Ok-clause-acted g c =
    looks_told _ _ c.args.reply c.args.awaits c.look_at-what.result c.tell.result _ _ _ _ _ c.in-Ok.ensures.acted c.look_at-what.ensures.made c.tell.ensures
