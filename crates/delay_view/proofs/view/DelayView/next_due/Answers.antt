use Rattle.std.proofs.Common.{◌∙◌}
use Rattle.delay_view.proofs.DueLemmas.{is_due_in_log}
use Rattle.delay_view.proofs.view.DelayView.next_due.Goals as goal

pub returns-clause-records : goal.returns-clause-records
returns-clause-records c log d now are = c.soonest_due.ensures now ∙ is_due_in_log log d now c.args.self.now are
