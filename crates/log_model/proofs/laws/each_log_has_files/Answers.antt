use Rattle.log_model.proofs.LogFiles.{log_files}
use Rattle.log_model.proofs.laws.each_log_has_files.Goals as goal

pub returns : goal.returns
returns c = log_files
