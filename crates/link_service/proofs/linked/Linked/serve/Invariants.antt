use Rattle.std.proofs.Common.{◌≡◌, false}
use Rattle.link_service.specs.Clocks.{at_reading}
use Rattle.link_service.specs.Transcripts.{seen_of}
use Rattle.link_service.proofs.Went.{Hears}
use Rattle.link_service.proofs.linked.Linked.serve.Given as goal

abbrev pub invariant-loop : goal.invariant-loop
invariant-loop g l = record {
  went : Hears (at_reading l.now g.C.Calls.makes) g.L.Link.tells l.fn.calls (seen_of g.L.Link.given g.L.Link.taken l.fn.self) l.calls (seen_of g.L.Link.given g.L.Link.taken l.self);
  whole : l.self.broken ≡ false;
}
