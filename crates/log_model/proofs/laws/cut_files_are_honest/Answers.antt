use Rattle.log_model.proofs.Cuts.{cut_files_honest}
use Rattle.log_model.proofs.laws.cut_files_are_honest.Goals as goal

pub returns : goal.returns
returns c = cut_files_honest
