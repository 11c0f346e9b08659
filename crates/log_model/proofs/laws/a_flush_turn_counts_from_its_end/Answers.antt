use Rattle.log_model.proofs.StoredLemmas.{keeps_turn}
use Rattle.log_model.proofs.laws.a_flush_turn_counts_from_its_end.Goals as goal

pub returns : goal.returns
returns g c S log before count turns first turn here = keeps_turn S log before count turns _ _ _ first turn here
