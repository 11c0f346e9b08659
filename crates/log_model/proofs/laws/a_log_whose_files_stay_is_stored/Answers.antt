use Rattle.log_model.proofs.OutsideLemmas.{log_stores_as}
use Rattle.log_model.proofs.laws.a_log_whose_files_stay_is_stored.Goals as goal

pub returns : goal.returns
returns g c S log flushed stays stores = log_stores_as S log flushed _ _ stays stores
