use Rattle.std.proofs.Common.{◌≤◌, List}
use Rattle.mq_peers.specs.Ended.{LinkEnd}
use Rattle.link_service.specs.Clocks.{unasked}
use Rattle.link_service.specs.Transcripts.{ByReader}
use Rattle.event_loops.specs.Tales.{Enters, Keeps, LeadsBy, link_view, loop_view}
use Rattle.event_loops.proofs.links.reply_each.Given as goal

abbrev pub invariant-loop-i : goal.invariant-loop-i
invariant-loop-i g l = record {
  went : ByReader g.R.Reader.gives (g.R.Reader.faults l.reader) (λ read. LeadsBy (unasked g.C.Calls.makes) l.fn.calls l.calls
      (g.R.Reader.faults l.fn.reader) (g.R.Reader.faults l.reader)
      (λ acts. (gone : List LinkEnd) × Enters (loop_view g.L.Link.tells g.L.Link.given g.L.Link.taken g.N.Ends.tells g.N.Ends.entries) l.fn.ledger gone l.ledger
      × Keeps (link_view g.L.Link.tells g.L.Link.given g.L.Link.taken) read l.fn.slots acts l.slots gone));
  grows : g.R.Reader.faults l.fn.reader ≤ g.R.Reader.faults l.reader;
}
