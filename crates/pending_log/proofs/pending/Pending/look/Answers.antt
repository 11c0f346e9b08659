use Rattle.std.proofs.Common.{◌≡◌, ◌∙◌, ap, sym, subst}
use Rattle.pending_log.specs.Parts.{PendingPart}
use Rattle.pending_log.specs.declared.turn.Look.TheVariants.{NotYet}
use Rattle.pending_log.specs.Looks.{this, AreInOrder, KeepsLast, looked, kept_look}
use Rattle.pending_log.proofs.LookLemmas.{unflushed_look}
use Rattle.pending_log.proofs.pending.Pending.look.Goals as goal

pub returns-in-Some-clause-turns : goal.returns-in-Some-clause-turns
returns-in-Some-clause-turns c turns =
    let inside = c.self.inside in
    subst (λ (p : PendingPart). AreInOrder this p.flushed turns → KeepsLast this turns p.failed → c.look_at.result ≡ looked this p.flushed turns c.args.number c.args.turn) c.self.view_is
    (unflushed_look this inside.flushed c.args.number c.args.turn turns inside.failed c.look_at.result c.if-number-self.false
    (c.look_at.ensures ∙ ap (λ kept. kept_look kept c.args.number c.args.turn) (sym c.in-Some.is)))

pub returns-in-None-clause-turns : goal.returns-in-None-clause-turns
returns-in-None-clause-turns c turns =
    let inside = c.self.inside in
    subst (λ (p : PendingPart). AreInOrder this p.flushed turns → KeepsLast this turns p.failed → NotYet ≡ looked this p.flushed turns c.args.number c.args.turn) c.self.view_is
    (unflushed_look this inside.flushed c.args.number c.args.turn turns inside.failed NotYet c.if-number-self.false
    (ap (λ kept. kept_look kept c.args.number c.args.turn) (sym c.in-None.is)))
