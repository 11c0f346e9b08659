use Rattle.event_loops.proofs.links.hear_slot.Goals as goal

pub returns-in-Some : goal.returns-in-Some
returns-in-Some g c = record { went = rw c.in-Some.is c.hear_one.ensures.went }
