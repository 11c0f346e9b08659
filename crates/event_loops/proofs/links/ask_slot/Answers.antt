use Rattle.link_service.specs.Clocks.{unasked}
use Rattle.link_service.specs.Transcripts.{counted_to}
use Rattle.event_loops.specs.Tales.{link_view}
use Rattle.event_loops.proofs.Told.{none_asked}
use Rattle.event_loops.proofs.links.ask_slot.Goals as goal

pub returns-in-None-clause-went : goal.returns-in-None-clause-went
returns-in-None-clause-went g c = λ most high. none_asked (link_view g.L.Link.tells g.L.Link.given g.L.Link.taken) (counted_to g.R.Reader.gives most) (unasked g.C.Calls.makes) _ _ _ _ c.in-None.is

pub returns-in-Some-clause-went : goal.returns-in-Some-clause-went
returns-in-Some-clause-went g c = rw c.in-Some.is c.ask_one.ensures.went
