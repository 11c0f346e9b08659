use Rattle.std.proofs.Common.{◌≡◌, ◌≤◌, length}
use Rattle.session.specs.Readers.{reads_between}
use Rattle.session.proofs.SettlingSteps.{HasSettled}
use Rattle.session.proofs.session.Session.settle.Given as goal

abbrev pub invariant-owed : goal.invariant-owed
invariant-owed g l = record {
  so : HasSettled g.C.Calls.makes (reads_between g.R.Reader.gives g.R.Reader.faults l.fn.reader l.reader) (g.R.Reader.faults l.fn.reader) (g.R.Reader.faults l.reader)
      l.fn.calls l.fn.self l.calls l.self;
  grows : g.R.Reader.faults l.fn.reader ≤ g.R.Reader.faults l.reader;
  held : l.self.held ≡ l.fn.self.held;
  talk : l.self.talk ≡ l.fn.self.talk;
  sent : l.self.sent ≡ l.fn.self.sent;
  asked : l.self.asked ≡ l.fn.self.asked;
}

abbrev pub decreases-owed : goal.decreases-owed
decreases-owed g l = length l.self.owed.items
