use Rattle.std.proofs.Common.{arith}
use Rattle.log_model.specs.Kinds.{is_delivery}
use Rattle.log_replay.proofs.Growth.{count_by-more}
use Rattle.log_replay.proofs.laws.a_delivery_is_progress.Goals as goal

pub returns : goal.returns
returns c = λ log r level. omega (arith, count_by-more (is_delivery level) log.records r)
