use Rattle.log_model.proofs.Recovery.{kept_stand}
use Rattle.log_model.proofs.laws.kept_records_stand_at_their_places.Goals as goal

pub returns : goal.returns
returns c = kept_stand
