use Rattle.std.proofs.Common.{refl}
use Rattle.link_service.specs.Clocks.{unasked}
use Rattle.link_service.specs.Transcripts.{counted_to}
use Rattle.event_loops.specs.Tales.{link_view}
use Rattle.event_loops.proofs.Told.{one_asked}
use Rattle.event_loops.proofs.links.ask_one.Goals as goal

pub returns-clause-went : goal.returns-clause-went
returns-clause-went g c = λ most high. one_asked (link_view g.L.Link.tells g.L.Link.given g.L.Link.taken) (counted_to g.R.Reader.gives most) (unasked g.C.Calls.makes) _ _
    c.args.numbered.now (record { number = c.args.numbered.now.number; peer = c.args.numbered.now.peer; linked = c.ask.new.self }) c.args.ask.now c.ask.result _ _ (refl, refl) (c.ask.ensures.went most high)
