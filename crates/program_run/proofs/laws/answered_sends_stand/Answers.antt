use Rattle.program_run.proofs.Stands.{answered_stand}
use Rattle.program_run.proofs.laws.answered_sends_stand.Goals as goal

pub returns : goal.returns
returns g c words status call = answered_stand _ words status _ call
