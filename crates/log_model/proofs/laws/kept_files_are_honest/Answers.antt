use Rattle.log_model.proofs.Recovery.{kept_honest}
use Rattle.log_model.proofs.laws.kept_files_are_honest.Goals as goal

pub returns : goal.returns
returns c = kept_honest
