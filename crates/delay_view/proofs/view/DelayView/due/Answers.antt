use Rattle.std.proofs.Common.{◌∙◌}
use Rattle.delay_view.proofs.DueLemmas.{due_of_log}
use Rattle.delay_view.proofs.view.DelayView.due.Goals as goal

pub returns-clause-records : goal.returns-clause-records
returns-clause-records c log d are = c.lowest_due.ensures ∙ due_of_log log d c.args.now c.args.self.now are
