use Rattle.std.proofs.Common.{◌∙◌, sym, subst}
use Rattle.core_log.specs.declared.parts.Parts.{Parts}
use Rattle.core_log.specs.Represents.{Represents}
use Rattle.broker_core.proofs.CheckedOrigins.{due_same}
use Rattle.broker_core.proofs.broker.Core.next_check.Goals as goal

pub returns : goal.returns
returns c s now are early =
    let mine = subst (λ (p : Parts). Represents p s) (sym c.self.view_is) are in
    sym (due_same s now) ∙ c.next_due.ensures.before s.setup.segment s.log are.state.log mine.halves now early
