use Rattle.log_model.proofs.StoreLemmas.{stores_empty}
use Rattle.log_model.proofs.laws.an_empty_disk_stores_the_empty_log.Goals as goal

pub returns : goal.returns
returns given c = λ tells S segment each. stores_empty S _ segment each
