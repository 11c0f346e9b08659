use Rattle.std.specs.Vec.{vec_len}
use Rattle.link_service.specs.Clocks.{unasked}
use Rattle.link_service.specs.Transcripts.{ByReader}
use Rattle.event_loops.specs.Tales.{GoesOn, LeadsBy, loop_view}
use Rattle.event_loops.proofs.links.Links.let_go.Given as goal

abbrev pub invariant-loop-slot : goal.invariant-loop-slot
invariant-loop-slot g l = ByReader g.R.Reader.gives 0 (λ read. LeadsBy (unasked g.C.Calls.makes) l.fn.calls l.calls 0 0
    (λ acts. GoesOn (loop_view g.L.Link.tells g.L.Link.given g.L.Link.taken g.N.Ends.tells g.N.Ends.entries) read l.fn.self acts l.self))

abbrev pub decreases-loop-slot : goal.decreases-loop-slot
decreases-loop-slot g l = vec_len l.self.slots
