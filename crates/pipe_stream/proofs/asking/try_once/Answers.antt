use Rattle.pipe_stream.proofs.AskLemmas.{given_err, given_owes, given_full}
use Rattle.pipe_stream.proofs.asking.try_once.Goals as goal

pub returns-in-Err-clause-acted : goal.returns-in-Err-clause-acted
returns-in-Err-clause-acted g c = given_err _ _ _ _ _ _ _ c.requires.request c.in-Err.ensures.applied

pub returns-in-Ok-Full-clause-acted : goal.returns-in-Ok-Full-clause-acted
returns-in-Ok-Full-clause-acted g c =
    given_full _ _ _ _ _ _ _ c.args.event.now c.in-Ok-Full._pending c.make_room.result c.requires.request
    (rw c.in-Ok-Full.field-0-is at c.in-Ok-Full.ensures.applied) c.make_room.ensures.acted

pub returns-in-Ok-Owes-clause-acted : goal.returns-in-Ok-Owes-clause-acted
returns-in-Ok-Owes-clause-acted g c =
    given_owes _ _ _ _ _ c.args.event.now c.in-Ok-Owes.reply c.in-Ok-Owes.awaits c.requires.request
    (rw c.in-Ok-Owes.field-0-is at c.in-Ok-Owes.ensures.applied)
