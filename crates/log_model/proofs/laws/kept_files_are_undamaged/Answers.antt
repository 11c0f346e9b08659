use Rattle.log_model.proofs.Damage.{kept_undamaged}
use Rattle.log_model.proofs.laws.kept_files_are_undamaged.Goals as goal

pub returns : goal.returns
returns c = kept_undamaged
