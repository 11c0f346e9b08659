use Rattle.log_model.proofs.Standing.{stores_as}
use Rattle.log_model.proofs.laws.other_files_do_not_matter.Goals as goal

pub returns : goal.returns
returns given c = λ tells tells_too S log flushed stores each. stores_as S log flushed _ _ each stores
