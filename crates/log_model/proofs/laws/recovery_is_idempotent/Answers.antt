use Rattle.log_model.proofs.Recovery.{recovered_again}
use Rattle.log_model.proofs.laws.recovery_is_idempotent.Goals as goal

pub returns : goal.returns
returns c = recovered_again
