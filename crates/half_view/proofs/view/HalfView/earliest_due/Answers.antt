use Rattle.std.proofs.Common.{◌∙◌, ◌-◌, ◌^◌, min, sym, ap, subst, refl, arith}
use Rattle.std.specs.Prelude.{IsSome}
use Rattle.half_view.specs.Halves.{HalfTable, due_of}
use Rattle.half_view.proofs.TableLemmas.{due_absent}
use Rattle.half_view.proofs.TimedLemmas.{none_due, some_due}
use Rattle.half_view.proofs.view.HalfView.earliest_due.Goals as goal

pub returns-then-time-clause-before : goal.returns-then-time-clause-before
returns-then-time-clause-before c = λ now any.
    let rows = c.self.inside.halves.items in
    let limit = min now (2 ^ 64 - 2) in
    let never = c.if-time.true in
    ap (λ (t : HalfTable). due_of now t) (sym c.self.view_is)
    ∙ due_absent now c.self.inside.low rows (none_due now limit c.self.inside.low rows c.self.inside.times c.self.invariant refl (c.in_ok-time.ensures.later limit (omega (arith, never))))

pub returns-else-time-clause-before : goal.returns-else-time-clause-before
returns-else-time-clause-before c = λ now early.
    let rows = c.self.inside.halves.items in
    let limit = min now (2 ^ 64 - 2) in
    ap (λ (t : HalfTable). due_of now t) (sym c.self.view_is)
    ∙ due_absent now c.self.inside.low rows (none_due now limit c.self.inside.low rows c.self.inside.times c.self.invariant refl (c.in_ok-time.ensures.later limit (omega (arith, early))))

pub returns-else-time-clause-at : goal.returns-else-time-clause-at
returns-else-time-clause-at c =
    let come = c.in_ok-time.ensures.come in
    subst (λ (t : HalfTable). IsSome (due_of c.in_ok-time.time t)) c.self.view_is
    (some_due c.in_ok-time.time c.self.inside.low c.self.inside.halves.items c.self.inside.times come.0 come.1 c.self.invariant
    (let other = c.if-time.false in omega (arith, other)) come.2 come.3)
