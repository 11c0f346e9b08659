use Rattle.log_replay.specs.Told.{log_of}
use Rattle.core_check.proofs.Own.{own_answer}
use Rattle.core_check.proofs.comparison.compare.Goals as goal

pub returns-clause-own : goal.returns-clause-own
returns-clause-own c s are is = own_answer c.has_all.result c.args.core.now s (log_of c.args.base.now c.args.log.now) is are c.has_all.ensures
