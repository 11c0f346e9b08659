use Rattle.std.proofs.Common.{[]}
use Rattle.link_service.specs.Transcripts.{WentOnUnread, seen_of}
use Rattle.link_service.proofs.linked.Linked.read.Given as goal

abbrev pub invariant-loop : goal.invariant-loop
invariant-loop g l = WentOnUnread g.L.Link.tells (seen_of g.L.Link.given g.L.Link.taken l.fn.self) [] (seen_of g.L.Link.given g.L.Link.taken l.self)
