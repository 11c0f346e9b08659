use Rattle.std.proofs.Common.{◌≡◌, List, length}
use Rattle.remoting_frame.specs.declared.frame.Frame.{Frame}
use Rattle.session.specs.Hearing.{Skips}
use Rattle.session.proofs.talk.Talk.next.Given as goal

abbrev pub invariant-skip : goal.invariant-skip
invariant-skip l = record {
  skipped : List Frame;
  skips : Skips l.initial.self.cutter skipped l.self.cutter;
  link : l.self.link ≡ l.initial.self.link;
  host : l.self.host ≡ l.initial.self.host;
}

abbrev pub decreases-skip : goal.decreases-skip
decreases-skip l = length l.self.cutter.bytes
