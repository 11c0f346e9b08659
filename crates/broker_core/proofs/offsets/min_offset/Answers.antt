use Rattle.std.proofs.Common.{◌≡◌, ◌∙◌, ap, subst, ℕ, List, IfOk}
use Rattle.reply_fields.specs.Parts.{ReplyParts}
use Rattle.request_fields.specs.Requests.{QueueSaid}
use Rattle.request_fields.specs.declared.request.Request.TheVariants.{MinOffset}
use Rattle.log_model.specs.Numbered.{queue_min}
use Rattle.broker_model.specs.State.{State, seen}
use Rattle.broker_model.specs.Refusals.{queue_refusal}
use Rattle.broker_model.specs.Answers.{offset_reply}
use Rattle.broker_events.specs.Replies.{IsReplyOf}
use Rattle.broker_core.proofs.ReadLemmas.{carries_refusal, carries_reply, reads_min, queue_rows, is_refused_as, is_allowed, refusal_min_offset, asked_by}
use Rattle.broker_core.proofs.offsets.min_offset.Goals as goal

pub returns-in-Some-clause-carries : goal.returns-in-Some-clause-carries
returns-in-Some-clause-carries c link host =
    let q = c.args.asked.now in
    let topic : c.as_str-topic.result.now ≡ q.topic = c.as_str-topic.ensures.value ∙ ap (λ (x : QueueSaid). x.topic) c.asked.view_is in
    let queue : c.asked.inside.queue ≡ q.queue = ap (λ (x : QueueSaid). x.queue) c.asked.view_is in
    let rows = queue_rows c.args.parts.now c.as_str-topic.result.now q.topic c.asked.inside.queue q.queue c.refuses_queue.result topic queue c.refuses_queue.ensures in
    carries_refusal c.args.parts.now (asked_by link host c.args.now (MinOffset q)) c.in-Some.refused c.said.result
    (refusal_min_offset c.args.parts.now q c.in-Some.refused (is_refused_as c.args.parts.now (λ (s : State). queue_refusal s q.topic q.queue) c.refuses_queue.result c.in-Some.refused rows c.in-Some.is)) c.said.ensures

pub returns-in-None-clause-carries : goal.returns-in-None-clause-carries
returns-in-None-clause-carries c link host =
    let old = c.args.parts.now in
    let q = c.args.asked.now in
    let topic : c.as_str-topic.result.now ≡ q.topic = c.as_str-topic.ensures.value ∙ ap (λ (x : QueueSaid). x.topic) c.asked.view_is in
    let queue : c.asked.inside.queue ≡ q.queue = ap (λ (x : QueueSaid). x.queue) c.asked.view_is in
    let rows = queue_rows old c.as_str-topic.result.now q.topic c.asked.inside.queue q.queue c.refuses_queue.result topic queue c.refuses_queue.ensures in
    carries_reply old c.tell.new.parts (asked_by link host c.args.now (MinOffset q)) (λ (s : State). offset_reply (queue_min (seen s) q.topic q.queue)) c.tell.result
    (reads_min old link host c.args.now q (is_allowed old (λ (s : State). queue_refusal s q.topic q.queue) c.refuses_queue.result rows c.in-None.is))
    c.requires.time c.tell.ensures.moved
    (λ s are. c.tell.ensures.told (offset_reply (queue_min (seen s) q.topic q.queue))
    (subst (λ (n : ℕ). IfOk c.offset_reply-reply.result (λ (made : ReplyParts). IsReplyOf made (offset_reply n)))
    (c.min_of.ensures s are ∙ ap (λ (name : List ℕ). queue_min (seen s) name c.asked.inside.queue) topic ∙ ap (λ (at : ℕ). queue_min (seen s) q.topic at) queue)
    c.offset_reply-reply.ensures))
