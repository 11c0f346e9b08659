use Rattle.std.proofs.Common.{refl}
use Rattle.link_service.specs.Clocks.{at_reading}
use Rattle.link_service.proofs.Timing.{looks_timed}
use Rattle.link_service.proofs.Went.{looks_well, looks_memory}
use Rattle.link_service.proofs.linked.Linked.has_room.Goals as goal

pub returns-in-Ok : goal.returns-in-Ok
returns-in-Ok g c = record {
  went = looks_well (at_reading c.args.now g.C.Calls.makes) g.L.Link.tells _ _ _ _ _ c.requires.whole c.requires.whole refl refl
      (looks_timed g.C.Calls.makes _ _ _ _ _ _ _ c.in-Ok.ensures.looks) c.in-Ok.ensures.talk c.in-Ok.ensures.out;
}

pub returns-in-Err : goal.returns-in-Err
returns-in-Err g c = record {
  went = looks_memory (at_reading c.args.now g.C.Calls.makes) g.L.Link.tells _ _ _ _ _ c.requires.whole refl refl refl
      (looks_timed g.C.Calls.makes _ _ _ _ _ _ _ c.in-Err.ensures.looks) c.in-Err.ensures.talk c.in-Err.ensures.out;
}
