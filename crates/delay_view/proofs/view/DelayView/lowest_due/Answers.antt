use Rattle.std.proofs.Common.{◌∙◌, List, sym, ap}
use Rattle.delay_view.specs.Levels.{Level, due_of}
use Rattle.delay_view.proofs.IdleLemmas.{passed_idle}
use Rattle.delay_view.proofs.view.DelayView.lowest_due.Goals as goal

pub returns : goal.returns
returns c =
    c.lowest_from.ensures ∙ sym (passed_idle c.args.now 1 c.self.inside.idle c.self.inside.levels.items c.self.invariant.none)
    ∙ ap (λ (ls : List Level). due_of c.args.now ls) c.self.view_is
