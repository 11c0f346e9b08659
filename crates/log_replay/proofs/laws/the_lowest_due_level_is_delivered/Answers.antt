use Rattle.std.proofs.Common.{arith}
use Rattle.log_model.specs.Delays.{levels}
use Rattle.log_replay.proofs.Due.{from_one, lowest_among, none_among}
use Rattle.log_replay.proofs.laws.the_lowest_due_level_is_delivered.Goals as goal

pub returns : goal.returns
returns c = record {
  due = λ log d now level r answer. let lowest = lowest_among log d now 1 levels from_one level r answer in (lowest.due, lowest.next);
  lowest = λ log d now level lower r answer low less. (lowest_among log d now 1 levels from_one level r answer).lowest lower low less;
  none = λ log d now level answer low high. none_among log d now 1 levels from_one answer level low (omega (arith, high));
}
