use Rattle.delay_view.proofs.CutLemmas.{made_levels}
use Rattle.delay_view.proofs.view.DelayView.new.Goals as goal

pub returns-clause-records : goal.returns-clause-records
returns-clause-records c = made_levels c.make.result c.make.ensures
