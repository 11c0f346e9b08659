use Rattle.std.proofs.Common.{sym, subst}
use Rattle.core_log.specs.declared.parts.Parts.{Parts}
use Rattle.core_log.specs.Represents.{Represents}
use Rattle.broker_core.proofs.broker.Core.next_delivery.Goals as goal

pub returns : goal.returns
returns c s now are =
    let mine = subst (λ (p : Parts). Represents p s) (sym c.self.view_is) are in
    c.next_due.ensures s.log s.dispatched now mine.levels
