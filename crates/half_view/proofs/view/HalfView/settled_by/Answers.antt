use Rattle.std.proofs.Common.{◌∙◌}
use Rattle.half_view.proofs.DueLemmas.{settled_is}
use Rattle.half_view.proofs.view.HalfView.settled_by.Goals as goal

pub returns-clause-records : goal.returns-clause-records
returns-clause-records c segment log well are = c.settling_at.ensures ∙ settled_is segment log c.args.self.now well are c.args.origin
