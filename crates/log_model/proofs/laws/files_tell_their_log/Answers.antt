use Rattle.log_model.proofs.Recovery.{files_tell}
use Rattle.log_model.proofs.laws.files_tell_their_log.Goals as goal

pub returns : goal.returns
returns c = files_tell
