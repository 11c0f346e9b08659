use Rattle.std.proofs.Common.{◌∙◌, ap}
use Rattle.request_fields.specs.Requests.{PullSaid}
use Rattle.broker_model.specs.Clients.{heard_words}
use Rattle.broker_core.proofs.PullLemmas.{own_words, group_words}
use Rattle.broker_core.proofs.pull.pull_words.Goals as goal

pub returns-then-has_subscription : goal.returns-then-has_subscription
returns-then-has_subscription c s are =
    let p : PullSaid = c.args.asked.now in
    own_words p c.has_subscription.result c.as_str.result.now (heard_words s.clients p.group p.topic) c.has_subscription.ensures c.if-has_subscription.true
    (c.as_str.ensures.value ∙ ap (λ (x : PullSaid). x.subscription) c.asked.view_is)

pub returns-else-has_subscription : goal.returns-else-has_subscription
returns-else-has_subscription c s are =
    let p : PullSaid = c.args.asked.now in
    group_words p c.has_subscription.result c.heard_words.result.now (heard_words s.clients p.group p.topic) c.has_subscription.ensures c.if-has_subscription.false (c.heard_words.ensures s are)
