use Rattle.std.proofs.Common.{refl, subst, sym, ap, set}
use Rattle.link_service.specs.Transcripts.{counted_to, IsFresh, seen_of}
use Rattle.event_loops.specs.Tales.{loop_view}
use Rattle.event_loops.proofs.Told.{goes_put}
use Rattle.event_loops.proofs.links.Links.put.Goals as goal

pub returns : goal.returns
returns g c = record {
  went = λ most high. goes_put (loop_view g.L.Link.tells g.L.Link.given g.L.Link.taken g.N.Ends.tells g.N.Ends.entries) (counted_to g.R.Reader.gives most) c.args.self.now _ c.args.slot
      (record { number = c.args.number; peer = c.peer-peer.result; linked = c.new-linked.result }) (refl, refl, refl, ap (set c.args.self.now.slots.items c.args.slot) c.replace-free.ensures.after) refl
      c.requires.free c.requires.newest c.requires.falls
      (subst (λ p. IsFresh g.L.Link.tells c.args.number p (seen_of g.L.Link.given g.L.Link.taken c.new-linked.result)) (sym c.peer-peer.ensures) c.new-linked.ensures.fresh);
}
