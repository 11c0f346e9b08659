use Rattle.std.proofs.Common.{ap, ◌∙◌}
use Rattle.broker_model.specs.State.{State}
use Rattle.broker_model.proofs.StepLemmas.{log_grows}
use Rattle.broker_model.proofs.laws.logs_grow_by_what_is_appended.Goals as goal

pub returns : goal.returns
returns c s new e answer stays step = ap (λ (t : State). t.log) step.2 ∙ log_grows s e stays
