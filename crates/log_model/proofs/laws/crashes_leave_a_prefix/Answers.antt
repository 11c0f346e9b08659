use Rattle.log_model.proofs.StoreLemmas.{stores_keeps}
use Rattle.log_model.proofs.laws.crashes_leave_a_prefix.Goals as goal

pub returns : goal.returns
returns given c = λ tells S log flushed files stores image honest. (stores_keeps S log flushed stores.shape stores.reach _ stores.at).at files image honest
