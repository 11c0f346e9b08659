use Rattle.std.proofs.Common.{◌≡◌, ◌∙◌, ap, subst, ℕ, Option, IfOk}
use Rattle.reply_fields.specs.Parts.{ReplyParts}
use Rattle.request_fields.specs.Requests.{OffsetSaid}
use Rattle.request_fields.specs.declared.request.Request.TheVariants.{OffsetOf}
use Rattle.broker_model.specs.State.{State}
use Rattle.broker_model.specs.Tables.{offset_in}
use Rattle.broker_model.specs.Refusals.{queue_refusal}
use Rattle.broker_model.specs.Answers.{stored_reply}
use Rattle.group_tables.specs.Offsets.{offset_of}
use Rattle.broker_events.specs.Replies.{IsReplyOf}
use Rattle.broker_core.proofs.ReadLemmas.{carries_refusal, carries_reply, reads_stored, queue_rows, is_refused_as, is_allowed, refusal_stored, asked_by}
use Rattle.broker_core.proofs.consumer_offsets.stored_offset.Goals as goal

pub returns-in-Some-clause-carries : goal.returns-in-Some-clause-carries
returns-in-Some-clause-carries c link host =
    let q = c.args.asked.now in
    let topic : c.as_str-topic.result.now ≡ q.topic = c.as_str-topic.ensures.value ∙ ap (λ (x : OffsetSaid). x.topic) c.asked.view_is in
    let queue : c.asked.inside.queue ≡ q.queue = ap (λ (x : OffsetSaid). x.queue) c.asked.view_is in
    let rows = queue_rows c.args.parts.now c.as_str-topic.result.now q.topic c.asked.inside.queue q.queue c.refuses_queue.result topic queue c.refuses_queue.ensures in
    carries_refusal c.args.parts.now (asked_by link host c.args.now (OffsetOf q)) c.in-Some.refused c.said.result
    (refusal_stored c.args.parts.now q c.in-Some.refused (is_refused_as c.args.parts.now (λ (s : State). queue_refusal s q.topic q.queue) c.refuses_queue.result c.in-Some.refused rows c.in-Some.is)) c.said.ensures

pub returns-in-None-clause-carries : goal.returns-in-None-clause-carries
returns-in-None-clause-carries c link host =
    let old = c.args.parts.now in
    let q = c.args.asked.now in
    let topic : c.as_str-topic.result.now ≡ q.topic = c.as_str-topic.ensures.value ∙ ap (λ (x : OffsetSaid). x.topic) c.asked.view_is in
    let queue : c.asked.inside.queue ≡ q.queue = ap (λ (x : OffsetSaid). x.queue) c.asked.view_is in
    let group : c.as_str.result.now ≡ q.group = c.as_str.ensures.value ∙ ap (λ (x : OffsetSaid). x.group) c.asked.view_is in
    let rows = queue_rows old c.as_str-topic.result.now q.topic c.asked.inside.queue q.queue c.refuses_queue.result topic queue c.refuses_queue.ensures in
    carries_reply old c.tell.new.parts (asked_by link host c.args.now (OffsetOf q)) (λ (s : State). stored_reply (offset_in s.offsets q.group q.topic q.queue)) c.tell.result
    (reads_stored old link host c.args.now q (is_allowed old (λ (s : State). queue_refusal s q.topic q.queue) c.refuses_queue.result rows c.in-None.is))
    c.requires.time c.tell.ensures.moved
    (λ s are. c.tell.ensures.told (stored_reply (offset_in s.offsets q.group q.topic q.queue))
    (subst (λ (o : Option ℕ). IfOk c.stored_reply-reply.result (λ (made : ReplyParts). IsReplyOf made (stored_reply o)))
    (c.offset-stored.ensures ∙ (λ i. offset_of old.groups (group i) (topic i) (queue i)) ∙ are.offsets q.group q.topic q.queue)
    c.stored_reply-reply.ensures))
