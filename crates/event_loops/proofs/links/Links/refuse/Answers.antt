use Rattle.std.proofs.Common.{refl, subst, sym}
use Rattle.link_service.specs.Clocks.{unasked}
use Rattle.link_service.specs.Transcripts.{counted_to, IsFresh, seen_of}
use Rattle.event_loops.specs.Tales.{loop_view}
use Rattle.event_loops.proofs.Told.{quiet_refusing}
use Rattle.event_loops.proofs.links.Links.refuse.Goals as goal

pub returns-clause-went : goal.returns-clause-went
returns-clause-went g c = λ most high. quiet_refusing (loop_view g.L.Link.tells g.L.Link.given g.L.Link.taken g.N.Ends.tells g.N.Ends.entries) (counted_to g.R.Reader.gives most) (unasked g.C.Calls.makes) _ _ c.args.self.now _
    (record { number = c.args.number; peer = c.peer-peer.result; linked = c.new-linked.result }) (refl, refl, refl, refl) c.end_slot.ensures.enters
    c.requires.newest c.requires.falls
    (subst (λ p. IsFresh g.L.Link.tells c.args.number p (seen_of g.L.Link.given g.L.Link.taken c.new-linked.result)) (sym c.peer-peer.ensures) c.new-linked.ensures.fresh)
    c.end_slot.ensures.left
