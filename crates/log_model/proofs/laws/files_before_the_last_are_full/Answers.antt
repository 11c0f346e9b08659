use Rattle.log_model.proofs.LogFiles.{before_full, behind_full}
use Rattle.log_model.proofs.laws.files_before_the_last_are_full.Goals as goal

pub returns-clause-before : goal.returns-clause-before
returns-clause-before c = before_full

pub returns-clause-behind : goal.returns-clause-behind
returns-clause-behind c = behind_full
