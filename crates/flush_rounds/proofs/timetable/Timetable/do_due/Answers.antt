use Rattle.flush_rounds.specs.Timing.{AreDueNow}
use Rattle.flush_rounds.proofs.Delivering.{some_made}
use Rattle.flush_rounds.proofs.Timing.{due_then}
use Rattle.flush_rounds.proofs.Asking.{duties_asking, asking_then}
use Rattle.flush_rounds.proofs.timetable.Timetable.do_due.Goals as goal

pub returns-clause-made : goal.returns-clause-made
returns-clause-made g c =
    let now = c.args.now in
    asking_then g.C.Calls.makes (AreDueNow now) (AreDueNow now) (AreDueNow now) (due_then now) _ _ _ _ _ _
    (duties_asking g.C.Calls.makes (AreDueNow now) (AreDueNow now) (λ made are. are) _ _ _ (some_made g.C.Calls.makes _ _ _ _ c.deliver_due-delivered.ensures.made)) c.check-checked.ensures.made
