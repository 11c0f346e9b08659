use Rattle.std.proofs.Common.{◌≡◌, subst, ℕ, List, IfOk}
use Rattle.log_model.specs.Pulls.{takes}
use Rattle.queue_view.specs.declared.tags.Tags.{Tags}
use Rattle.queue_view.specs.Subscriptions.{tags_take}
use Rattle.broker_core.proofs.pull.tags_of.Goals as goal

pub returns : goal.returns
returns c s are = subst (λ (words : List ℕ). IfOk c.read.result (λ (tags : Tags). tags_take tags ≡ takes words)) (c.pull_words.ensures s are) c.read.ensures
