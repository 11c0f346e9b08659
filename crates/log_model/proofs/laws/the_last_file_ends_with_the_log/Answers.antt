use Rattle.log_model.proofs.LogFiles.{last_ends}
use Rattle.log_model.proofs.laws.the_last_file_ends_with_the_log.Goals as goal

pub returns : goal.returns
returns c = last_ends
