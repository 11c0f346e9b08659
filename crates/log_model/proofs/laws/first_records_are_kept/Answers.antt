use Rattle.log_model.proofs.StoredLemmas.{first_keeps}
use Rattle.log_model.proofs.laws.first_records_are_kept.Goals as goal

pub returns : goal.returns
returns c = first_keeps
