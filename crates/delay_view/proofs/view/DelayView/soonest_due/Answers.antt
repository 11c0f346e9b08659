use Rattle.std.proofs.Common.{◌∙◌, ◌+◌, drop, is_some, List, sym, ap}
use Rattle.delay_view.specs.Levels.{Level, due_of}
use Rattle.delay_view.proofs.DueLemmas.{any_due}
use Rattle.delay_view.proofs.IdleLemmas.{passed_idle}
use Rattle.delay_view.proofs.view.DelayView.soonest_due.Goals as goal

pub returns : goal.returns
returns c now =
    let levels = c.self.inside.levels.items in
    let idle = c.self.inside.idle in
    c.soonest_from.ensures now ∙ sym (any_due now (1 + idle) (drop idle levels)) ∙ ap is_some (sym (passed_idle now 1 idle levels c.self.invariant.none))
    ∙ ap (λ (ls : List Level). is_some (due_of now ls)) c.self.view_is
