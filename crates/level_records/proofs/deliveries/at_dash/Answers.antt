use Rattle.std.proofs.Common.{arith}
use Rattle.std.proofs.lemmas.Str.Pattern.{split_once_first}
use Rattle.log_model.proofs.DashLemmas.{split_is}
use Rattle.level_records.proofs.deliveries.at_dash.Goals as goal

pub returns : goal.returns
returns c = split_is 45 c.args.text.now c.split_once.result (split_once_first 45 c.args.text.now c.split_once.result c.split_once.ensures.cases (omega arith))
