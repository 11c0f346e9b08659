use Rattle.std.proofs.Common.{◌≤◌}
use Rattle.link_service.specs.Clocks.{unasked}
use Rattle.link_service.specs.Transcripts.{ByReader, seen_of}
use Rattle.link_service.proofs.Went.{Goes}
use Rattle.link_service.proofs.linked.Linked.reply.Given as goal

abbrev pub invariant-loop : goal.invariant-loop
invariant-loop g l = record {
  went : ByReader g.R.Reader.gives (g.R.Reader.faults l.reader) (λ read. Goes (unasked g.C.Calls.makes) g.L.Link.tells read
      (g.R.Reader.faults l.fn.reader) (g.R.Reader.faults l.reader) l.fn.calls (seen_of g.L.Link.given g.L.Link.taken l.fn.self) l.calls (seen_of g.L.Link.given g.L.Link.taken l.self));
  grows : g.R.Reader.faults l.fn.reader ≤ g.R.Reader.faults l.reader;
}
