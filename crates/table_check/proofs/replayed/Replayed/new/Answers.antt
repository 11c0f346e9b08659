use Rattle.std.proofs.Common.{arith}
use Rattle.log_model.specs.Told.{base_of}
use Rattle.table_check.proofs.LevelLemmas.{none_yet}
use Rattle.table_check.proofs.replayed.Replayed.new.Goals as goal

pub returns : goal.returns
returns c = record {
  number = omega arith;
  halves = λ segment lawful. c.start.ensures.records (base_of c.args.base.now) c.bounds_of-low.ensures.minimum;
  delivered = λ segment lawful. none_yet c.args.base.now c.delivered_before.result c.delivered_before.ensures.same c.delivered_before.ensures.all;
}
