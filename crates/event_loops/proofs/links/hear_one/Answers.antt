use Rattle.std.proofs.Common.{refl}
use Rattle.link_service.specs.Clocks.{at_reading}
use Rattle.link_service.specs.Transcripts.{counted_to}
use Rattle.event_loops.specs.Tales.{link_view}
use Rattle.event_loops.proofs.Told.{one_heard}
use Rattle.event_loops.proofs.links.hear_one.Goals as goal

pub returns : goal.returns
returns g c = record {
  went = λ most high. one_heard (link_view g.L.Link.tells g.L.Link.given g.L.Link.taken) (counted_to g.R.Reader.gives most) (at_reading c.args.now g.C.Calls.makes) _ _
      c.args.numbered.now (record { number = c.args.numbered.now.number; peer = c.args.numbered.now.peer; linked = c.hear.new.self }) (refl, refl) c.hear.ensures.went;
}
