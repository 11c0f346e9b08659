use Rattle.std.proofs.Common.{◌≡◌, ◌∙◌, ap}
use Rattle.request_fields.specs.Requests.{PullSaid}
use Rattle.broker_model.specs.Clients.{heard_words}
use Rattle.broker_core.proofs.pull.heard_words.Goals as goal

pub returns : goal.returns
returns c s are =
    let p : PullSaid = c.args.asked.now in
    let group : c.as_str.result.now ≡ p.group = c.as_str.ensures.value ∙ ap (λ (x : PullSaid). x.group) c.asked.view_is in
    let topic : c.as_str-2.result.now ≡ p.topic = c.as_str-2.ensures.value ∙ ap (λ (x : PullSaid). x.topic) c.asked.view_is in
    c.subscription.ensures s.clients are.clients ∙ (λ i. heard_words s.clients (group i) (topic i))
