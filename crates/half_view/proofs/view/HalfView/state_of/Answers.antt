use Rattle.std.proofs.Common.{◌∙◌}
use Rattle.half_view.proofs.DueLemmas.{state_is}
use Rattle.half_view.proofs.view.HalfView.state_of.Goals as goal

pub returns-clause-records : goal.returns-clause-records
returns-clause-records c segment log well are = c.state_at.ensures ∙ state_is segment log c.args.self.now well are c.args.origin
