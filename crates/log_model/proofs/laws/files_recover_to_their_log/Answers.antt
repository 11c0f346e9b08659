use Rattle.log_model.proofs.Recovery.{files_keep}
use Rattle.log_model.proofs.laws.files_recover_to_their_log.Goals as goal

pub returns : goal.returns
returns c = files_keep
