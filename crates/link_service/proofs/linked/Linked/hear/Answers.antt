use Rattle.link_service.specs.Clocks.{at_reading}
use Rattle.link_service.proofs.Went.{unread_same, hears_quietly, hears_on}
use Rattle.link_service.proofs.linked.Linked.hear.Goals as goal

pub returns-then-self : goal.returns-then-self
returns-then-self g c = record { went = hears_quietly (at_reading c.args.now g.C.Calls.makes) g.L.Link.tells _ _ _ (unread_same _ _) }

pub returns-then-self-2 : goal.returns-then-self-2
returns-then-self-2 g c = record { went = hears_quietly (at_reading c.args.now g.C.Calls.makes) g.L.Link.tells _ _ _ c.drain.ensures.went }

pub returns-then-self-3 : goal.returns-then-self-3
returns-then-self-3 g c = record {
  went = hears_on (at_reading c.args.now g.C.Calls.makes) g.L.Link.tells _ _ _ _ _ _ c.has_room.ensures.went
      (hears_quietly (at_reading c.args.now g.C.Calls.makes) g.L.Link.tells _ _ _ c.read.ensures.went);
}

pub returns : goal.returns
returns g c = record {
  went = hears_on (at_reading c.args.now g.C.Calls.makes) g.L.Link.tells _ _ _ _ _ _
      (hears_on (at_reading c.args.now g.C.Calls.makes) g.L.Link.tells _ _ _ _ _ _ c.has_room.ensures.went
      (hears_quietly (at_reading c.args.now g.C.Calls.makes) g.L.Link.tells _ _ _ c.read.ensures.went)) c.serve.ensures.went;
}
