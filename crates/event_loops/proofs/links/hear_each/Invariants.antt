use Rattle.std.proofs.Common.{[]}
use Rattle.link_service.specs.Clocks.{at_reading}
use Rattle.link_service.specs.Transcripts.{ByReader}
use Rattle.event_loops.specs.Tales.{Keeps, LeadsBy, link_view}
use Rattle.event_loops.proofs.links.hear_each.Given as goal

abbrev pub invariant-loop-i : goal.invariant-loop-i
invariant-loop-i g l = ByReader g.R.Reader.gives 0 (λ read. LeadsBy (at_reading l.now g.C.Calls.makes) l.fn.calls l.calls 0 0
    (λ acts. Keeps (link_view g.L.Link.tells g.L.Link.given g.L.Link.taken) read l.fn.slots acts l.slots []))
