use Rattle.std.proofs.Common.{arith}
use Rattle.level_records.proofs.levels.Levels.load_delivery.Goals as goal

pub returns : goal.returns
returns c log r are copy = c.delivered.ensures log 0 r are (omega arith) copy
