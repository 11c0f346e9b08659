use Rattle.log_model.proofs.Prefixes.{keeps_prefix}
use Rattle.log_model.proofs.laws.torn_ends_leave_a_prefix.Goals as goal

pub returns : goal.returns
returns c = λ S log flushed shape reach files. keeps_prefix S log flushed files shape reach
