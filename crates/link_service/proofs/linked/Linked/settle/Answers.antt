use Rattle.std.proofs.Common.{refl}
use Rattle.link_service.specs.Clocks.{unasked}
use Rattle.link_service.proofs.Timing.{settles_unasked, breaks_unasked}
use Rattle.link_service.proofs.Went.{settles_whole, settles_broken}
use Rattle.link_service.proofs.linked.Linked.settle.Goals as goal

pub returns-in-Ok-clause-went : goal.returns-in-Ok-clause-went
returns-in-Ok-clause-went g c = λ most high.
    settles_whole (unasked g.C.Calls.makes) g.L.Link.tells g.R.Reader.gives g.R.Reader.faults c.args.reader.now c.settle.new.reader most high _ _ _ _ c.requires.whole c.requires.whole refl refl (settles_unasked g.C.Calls.makes _ _ _ _ _ _ _ c.in-Ok.ensures.settles) c.in-Ok.ensures.held
    c.in-Ok.ensures.talk c.in-Ok.ensures.sent c.in-Ok.ensures.asked

pub returns-in-Err-clause-went : goal.returns-in-Err-clause-went
returns-in-Err-clause-went g c = λ most high.
    settles_broken (unasked g.C.Calls.makes) g.L.Link.tells g.R.Reader.gives g.R.Reader.faults c.args.reader.now c.settle.new.reader most high _ _ _ _ c.requires.whole refl refl refl (breaks_unasked g.C.Calls.makes _ _ _ _ _ _ _ c.in-Err.ensures.settles) c.in-Err.ensures.held
    c.in-Err.ensures.talk c.in-Err.ensures.sent
