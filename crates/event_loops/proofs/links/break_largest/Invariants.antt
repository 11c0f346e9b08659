use Rattle.std.proofs.Common.{[]}
use Rattle.link_service.specs.Transcripts.{ByReader}
use Rattle.event_loops.specs.Tales.{Keeps, link_view}
use Rattle.event_loops.proofs.links.break_largest.Given as goal

abbrev pub invariant-loop : goal.invariant-loop
invariant-loop g l = ByReader g.R.Reader.gives 0 (λ read. Keeps (link_view g.L.Link.tells g.L.Link.given g.L.Link.taken) read l.fn.slots [] l.slots [])
