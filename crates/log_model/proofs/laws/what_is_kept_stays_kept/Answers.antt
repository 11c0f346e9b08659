use Rattle.log_model.proofs.StoredLemmas.{keeps_more, keeps_then}
use Rattle.log_model.proofs.laws.what_is_kept_stays_kept.Goals as goal

pub returns-clause-longer : goal.returns-clause-longer
returns-clause-longer g c S log more least keeps = keeps_more S log more least _ _ keeps

pub returns-clause-both : goal.returns-clause-both
returns-clause-both g c S log least first second = keeps_then S log least _ _ _ first second
