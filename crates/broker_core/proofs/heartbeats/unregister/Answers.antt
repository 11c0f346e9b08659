use Rattle.std.proofs.Common.{◌≡◌, ◌∙◌, ap, codes}
use Rattle.request_fields.specs.Requests.{UnregisterSaid}
use Rattle.request_fields.specs.declared.request.Request.TheVariants.{Unregister}
use Rattle.broker_model.specs.Events as model
use Rattle.broker_model.specs.Clients.{after_unregister}
use Rattle.broker_model.specs.Answers.{done_reply}
use Rattle.broker_core.proofs.AnswerLemmas.{is_plain_reply}
use Rattle.broker_core.proofs.HeartbeatLemmas.{does_unregister, unregister_done}
use Rattle.broker_core.proofs.ReadLemmas.{carries_done, asked_by}
use Rattle.broker_core.proofs.heartbeats.unregister.Goals as goal

pub returns-clause-carries : goal.returns-clause-carries
returns-clause-carries c link host =
    let old = c.args.parts.now in
    let u : UnregisterSaid = c.args.asked.now in
    let client : c.as_str.result.now ≡ u.client = c.as_str.ensures.value ∙ ap (λ (x : UnregisterSaid). x.client) c.asked.view_is in
    let producer : c.as_str-2.result.now ≡ u.producer = c.as_str-2.ensures.value ∙ ap (λ (x : UnregisterSaid). x.producer) c.asked.view_is in
    let consumer : c.as_str-3.result.now ≡ u.consumer = c.as_str-3.ensures.value ∙ ap (λ (x : UnregisterSaid). x.consumer) c.asked.view_is in
    carries_done old (record old { clients = c.unregister.new.self }) c.told.new.parts (asked_by link host c.args.now (Unregister u)) (λ s. model.Replies done_reply)
    (λ s. record s { clients = after_unregister u.client u.producer u.consumer s.clients }) c.told.result (does_unregister old link host c.args.now u) c.requires.time c.told.ensures.moved
    (λ s are. (
      unregister_done old c.unregister.new.self s u c.as_str.result.now c.as_str-2.result.now c.as_str-3.result.now are client producer consumer c.unregister.ensures,
      c.told.ensures.told (model.Replies done_reply) (is_plain_reply c.in_ok-reply.reply 0 (codes "") c.in_ok-reply.ensures),
    ))
