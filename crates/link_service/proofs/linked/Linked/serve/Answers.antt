use Rattle.link_service.specs.Clocks.{at_reading}
use Rattle.link_service.proofs.Went.{unread_same, hears_quietly, hears_on}
use Rattle.link_service.proofs.linked.Linked.serve.Goals as goal

pub loop-init : goal.loop-init
loop-init g c = record { went = hears_quietly (at_reading c.args.now g.C.Calls.makes) g.L.Link.tells _ _ _ (unread_same _ _); whole = c.requires.whole }

pub returns-in-Ok-Full : goal.returns-in-Ok-Full
returns-in-Ok-Full g c = record { went = hears_on (at_reading c.args.now g.C.Calls.makes) g.L.Link.tells _ _ _ _ _ _ c.loop.invariant.went c.serve_once.ensures.went }

pub returns-in-Ok-Full-2 : goal.returns-in-Ok-Full-2
returns-in-Ok-Full-2 g c = record { went = hears_on (at_reading c.args.now g.C.Calls.makes) g.L.Link.tells _ _ _ _ _ _ c.loop.invariant.went c.serve_once.ensures.went }

pub returns-in-Ok-Nothing : goal.returns-in-Ok-Nothing
returns-in-Ok-Nothing g c = record { went = hears_on (at_reading c.args.now g.C.Calls.makes) g.L.Link.tells _ _ _ _ _ _ c.loop.invariant.went c.serve_once.ensures.went }

pub returns-in-Ok-Nothing-2 : goal.returns-in-Ok-Nothing-2
returns-in-Ok-Nothing-2 g c = record { went = hears_on (at_reading c.args.now g.C.Calls.makes) g.L.Link.tells _ _ _ _ _ _ c.loop.invariant.went c.serve_once.ensures.went }

pub loop-preserved : goal.loop-preserved
loop-preserved g c = record {
  went = hears_on (at_reading c.args.now g.C.Calls.makes) g.L.Link.tells _ _ _ _ _ _ c.loop.invariant.went c.serve_once.ensures.went;
  whole = c.in-Ok-Request.ensures.whole;
}
