use Rattle.std.proofs.Common.{◌≡◌, ◌∙◌, ap, sym, subst, arith, ℕ, List, true, None, Some, codes, rules}
use Rattle.request_fields.specs.Clients.{IsName}
use Rattle.record_codec.specs.Layout.{is_legal}
use Rattle.request_fields.specs.Requests.{SetOffsetSaid, KeepsSetOffset}
use Rattle.request_fields.specs.declared.request.Request.TheVariants.{SetOffset}
use Rattle.broker_model.specs.State.{State}
use Rattle.broker_model.specs.Events as model
use Rattle.broker_model.specs.Refusals.{queue_refusal}
use Rattle.broker_model.specs.Answers.{done_reply}
use Rattle.broker_model.specs.Step.{stored}
use Rattle.core_log.specs.Represents.{Represents}
use Rattle.broker_core.proofs.AnswerLemmas.{is_plain_reply}
use Rattle.broker_core.proofs.ReadLemmas.{carries_refusal, carries_done, does_set_offset, queue_rows, is_refused_as, is_allowed, refusal_set_offset, asked_by}
use Rattle.broker_core.proofs.GroupLemmas.{name_of_field}
use Rattle.broker_core.proofs.LegalLemmas.{queue_legal}
use Rattle.broker_core.proofs.consumer_offsets.set_offset.Goals as goal

pub store_offset-requires-clause-group : goal.store_offset-requires-clause-group
store_offset-requires-clause-group c =
    let keeps : KeepsSetOffset c.args.asked.now = subst (λ (x : SetOffsetSaid). KeepsSetOffset x) c.asked.view_is c.asked.invariant in
    let group : c.as_str-group.result.now ≡ c.args.asked.now.group = c.as_str-group.ensures.value ∙ ap (λ (x : SetOffsetSaid). x.group) c.asked.view_is in
    subst (λ (name : List ℕ). IsName name) (sym group) (name_of_field c.args.asked.now.group keeps.group)

pub store_offset-requires-clause-queue : goal.store_offset-requires-clause-queue
store_offset-requires-clause-queue c =
    let keeps : KeepsSetOffset c.args.asked.now = subst (λ (x : SetOffsetSaid). KeepsSetOffset x) c.asked.view_is c.asked.invariant in
    let queue : c.asked.inside.queue ≡ c.args.asked.now.queue = ap (λ (x : SetOffsetSaid). x.queue) c.asked.view_is in
    let low = keeps.queue in
    omega (arith, low, queue)

pub returns-in-Some-clause-carries : goal.returns-in-Some-clause-carries
returns-in-Some-clause-carries c link host =
    let q = c.args.asked.now in
    let topic : c.as_str-topic.result.now ≡ q.topic = c.as_str-topic.ensures.value ∙ ap (λ (x : SetOffsetSaid). x.topic) c.asked.view_is in
    let queue : c.asked.inside.queue ≡ q.queue = ap (λ (x : SetOffsetSaid). x.queue) c.asked.view_is in
    let rows = queue_rows c.args.parts.now c.as_str-topic.result.now q.topic c.asked.inside.queue q.queue c.refuses_queue.result topic queue c.refuses_queue.ensures in
    carries_refusal c.args.parts.now (asked_by link host c.args.now (SetOffset q)) c.in-Some.refused c.said.result
    (refusal_set_offset c.args.parts.now q c.in-Some.refused (is_refused_as c.args.parts.now (λ (s : State). queue_refusal s q.topic q.queue) c.refuses_queue.result c.in-Some.refused rows c.in-Some.is)) c.said.ensures

pub returns-in-Ok-clause-carries : goal.returns-in-Ok-clause-carries
returns-in-Ok-clause-carries c link host =
    let old = c.args.parts.now in
    let q = c.args.asked.now in
    let topic : c.as_str-topic.result.now ≡ q.topic = c.as_str-topic.ensures.value ∙ ap (λ (x : SetOffsetSaid). x.topic) c.asked.view_is in
    let queue : c.asked.inside.queue ≡ q.queue = ap (λ (x : SetOffsetSaid). x.queue) c.asked.view_is in
    let group : c.as_str-group.result.now ≡ q.group = c.as_str-group.ensures.value ∙ ap (λ (x : SetOffsetSaid). x.group) c.asked.view_is in
    let offset : c.asked.inside.offset ≡ q.offset = ap (λ (x : SetOffsetSaid). x.offset) c.asked.view_is in
    let allowed : c.refuses_queue.result ≡ None = search rules in
    let rows = queue_rows old c.as_str-topic.result.now q.topic c.asked.inside.queue q.queue c.refuses_queue.result topic queue c.refuses_queue.ensures in
    carries_done old c.store_offset.new.parts c.told.new.parts (asked_by link host c.args.now (SetOffset q)) (λ s. model.Replies done_reply) (λ s. stored s q.group q.topic q.queue (Some q.offset)) c.told.result
    (does_set_offset old link host c.args.now q (is_allowed old (λ (s : State). queue_refusal s q.topic q.queue) c.refuses_queue.result rows allowed))
    c.requires.time c.told.ensures.moved
    (λ s are. (
      subst (λ (t : State). Represents c.store_offset.new.parts t) (λ i. stored s (group i) (topic i) (queue i) (Some (offset i))) (c.in-Ok.ensures.stored s are
          (subst (λ (t : List ℕ). is_legal t ≡ true) (sym topic)
          (queue_legal old s q.topic q.queue are (is_allowed old (λ (s : State). queue_refusal s q.topic q.queue) c.refuses_queue.result rows allowed s are)))),
      c.told.ensures.told (model.Replies done_reply) (is_plain_reply c.in_ok-reply.reply 0 (codes "") c.in_ok-reply.ensures),
    ))
