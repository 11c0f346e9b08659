use Rattle.std.proofs.Common.{◌∙◌}
use Rattle.half_view.proofs.DueLemmas.{due_is}
use Rattle.half_view.proofs.view.HalfView.due.Goals as goal

pub returns-clause-records : goal.returns-clause-records
returns-clause-records c segment log well are = c.due_check.ensures ∙ due_is segment log c.args.self.now well are c.args.now
