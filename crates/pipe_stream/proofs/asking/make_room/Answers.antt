use Rattle.worker_turns.proofs.ActLemmas.{acted_any}
use Rattle.pipe_stream.proofs.AskLemmas.{no_room_made}
use Rattle.pipe_stream.proofs.asking.make_room.Goals as goal

pub returns-in-Idle-clause-acted : goal.returns-in-Idle-clause-acted
returns-in-Idle-clause-acted g c = acted_any _ _ _ _ _ _ _ c.in-Idle.ensures.acted

pub returns-in-Misplaced-clause-acted : goal.returns-in-Misplaced-clause-acted
returns-in-Misplaced-clause-acted g c =
    record { acts = c.in-Misplaced.ensures.acted.acts; kind = c.in-Misplaced.ensures.acted.kind; happened = c.in-Misplaced.ensures.acted.happened }

pub returns-in-Memory-clause-acted : goal.returns-in-Memory-clause-acted
returns-in-Memory-clause-acted g c = acted_any _ _ _ _ _ _ _ c.in-Memory.ensures.acted

pub returns-in-Failed-clause-acted : goal.returns-in-Failed-clause-acted
returns-in-Failed-clause-acted g c = no_room_made _ _ c.in-Failed.count c.give_up.result _ _ _ _ c.give_up.ensures c.in-Failed.ensures.acted

pub returns-in-Done-clause-acted : goal.returns-in-Done-clause-acted
returns-in-Done-clause-acted g c =
    record { acts = c.in-Done.ensures.acted.acts; kind = c.in-Done.ensures.acted.kind; happened = c.in-Done.ensures.acted.happened }
