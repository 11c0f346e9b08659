use Rattle.std.proofs.Common.{◌∙◌, [], ap}
use Rattle.event_loops.specs.Timing.{clock_over}
use Rattle.flush_rounds.specs.Timing.{AreDueNow, AreNotDue, IsAttended}
use Rattle.flush_rounds.proofs.Asking.{no_asking, duties_asking, asking_then}
use Rattle.flush_rounds.proofs.Timing.{attends_none, attends_idle, attends_behind}
use Rattle.flush_rounds.proofs.timetable.Timetable.work.Goals as goal

pub returns-in_default-clause-made : goal.returns-in_default-clause-made
returns-in_default-clause-made g c =
    let readings = g.K.Clock.readings in
    let old = readings c.args.self.now.clock in
    let new = readings c.now.new.self in
    no_asking g.C.Calls.makes (IsAttended (clock_over g.K.Clock.tells old new)) (attends_none g.K.Clock.tells old new [] c.in_default.ensures.still tt) _ _

pub returns-then-not-is_due-clause-made : goal.returns-then-not-is_due-clause-made
returns-then-not-is_due-clause-made g c =
    let readings = g.K.Clock.readings in
    let old = readings c.args.self.now.clock in
    let new = readings c.look_up.new.self.clock in
    duties_asking g.C.Calls.makes AreNotDue (IsAttended (clock_over g.K.Clock.tells old new))
    (λ made none. attends_idle g.K.Clock.tells old c.in-Ok.now new made (λ tells. ap readings c.look_up.ensures.clock ∙ c.in-Ok.ensures.given tells) none) _ _ _ c.look_up.ensures.made

pub returns-then-ne-clause-made : goal.returns-then-ne-clause-made
returns-then-ne-clause-made g c =
    let readings = g.K.Clock.readings in
    let old = readings c.args.self.now.clock in
    let new = readings c.look_up.new.self.clock in
    duties_asking g.C.Calls.makes AreNotDue (IsAttended (clock_over g.K.Clock.tells old new))
    (λ made none. attends_idle g.K.Clock.tells old c.in-Ok.now new made (λ tells. ap readings c.look_up.ensures.clock ∙ c.in-Ok.ensures.given tells) none) _ _ _ c.look_up.ensures.made

pub returns-clause-made : goal.returns-clause-made
returns-clause-made g c =
    let readings = g.K.Clock.readings in
    let old = readings c.args.self.now.clock in
    let new = readings c.do_due.new.self.clock in
    asking_then g.C.Calls.makes AreNotDue (AreDueNow c.in-Ok.now) (IsAttended (clock_over g.K.Clock.tells old new))
    (λ first later none are. attends_behind g.K.Clock.tells old c.in-Ok.now new first later
    (λ tells. ap readings (c.do_due.ensures.clock ∙ c.look_up.ensures.clock) ∙ c.in-Ok.ensures.given tells) none are) _ _ _ _ _ _
    (duties_asking g.C.Calls.makes AreNotDue AreNotDue (λ made none. none) _ _ _ c.look_up.ensures.made) c.do_due.ensures.made
