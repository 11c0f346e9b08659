use Rattle.std.proofs.Common.{Some, subst}
use Rattle.core_log.specs.declared.parts.Parts.{Parts}
use Rattle.flush_rounds.specs.Deliveries.{IsNextDue}
use Rattle.flush_rounds.proofs.Delivering.{look_made}
use Rattle.flush_rounds.proofs.timetable.next_due.Goals as goal

pub returns-clause-next : goal.returns-clause-next
returns-clause-next g c =
    let saw = c.look.ensures in
    let read = saw.2 in (saw.0, saw.1, subst (λ (core : Parts). IsNextDue core c.look.result) read.2 read.1)

pub returns-clause-made : goal.returns-clause-made
returns-clause-made g c =
    let step = g.met.C.Owner.sees_at_a_step _ _ _ c.look.ensures.1 in look_made g.C.Calls.makes (Some step.0) _ _ step.1
