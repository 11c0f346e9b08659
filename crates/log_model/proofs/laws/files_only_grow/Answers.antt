use Rattle.log_model.proofs.Longer.{files_begin}
use Rattle.log_model.proofs.laws.files_only_grow.Goals as goal

pub returns : goal.returns
returns c = files_begin
