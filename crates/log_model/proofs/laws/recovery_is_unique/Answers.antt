use Rattle.log_model.proofs.Recovery.{keeps_unique}
use Rattle.log_model.proofs.laws.recovery_is_unique.Goals as goal

pub returns : goal.returns
returns c = keeps_unique
