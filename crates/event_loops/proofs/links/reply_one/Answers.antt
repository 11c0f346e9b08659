use Rattle.std.proofs.Common.{refl}
use Rattle.link_service.specs.Clocks.{unasked}
use Rattle.link_service.specs.Transcripts.{counted_to}
use Rattle.event_loops.specs.Tales.{link_view}
use Rattle.event_loops.proofs.Told.{one_replied, one_left}
use Rattle.event_loops.proofs.links.reply_one.Goals as goal

pub returns-then-not-has_ended-clause-replied : goal.returns-then-not-has_ended-clause-replied
returns-then-not-has_ended-clause-replied g c = λ is most high. one_replied (link_view g.L.Link.tells g.L.Link.given g.L.Link.taken) (counted_to g.R.Reader.gives most) (unasked g.C.Calls.makes) _ _
    c.args.numbered.now (record { number = c.args.numbered.now.number; peer = c.args.numbered.now.peer; linked = c.reply.new.self }) _ _ (refl, refl) (c.reply.ensures.went most high)

pub returns-clause-left : goal.returns-clause-left
returns-clause-left g c = λ is most high. one_left (link_view g.L.Link.tells g.L.Link.given g.L.Link.taken) (counted_to g.R.Reader.gives most) (unasked g.C.Calls.makes) _ _ _ c.args.numbered.now
    (record { number = c.args.numbered.now.number; peer = c.args.numbered.now.peer; linked = c.reply.new.self }) c.leave.ensures.0 _ _ (refl, refl) (c.reply.ensures.went most high) (c.leave.ensures.1, tt)
