use Rattle.std.proofs.Common.{◌≡◌, ◌∙◌, ap, subst, ℕ, List, IfOk, ℤ, rules, w64}
use Rattle.std.proofs.lemmas.Int.{to_z-of_z}
use Rattle.reply_fields.specs.Parts.{ReplyParts}
use Rattle.request_fields.specs.Requests.{SearchSaid}
use Rattle.request_fields.specs.declared.request.Request.TheVariants.{Search}
use Rattle.broker_model.specs.State.{State, seen}
use Rattle.broker_model.specs.Refusals.{queue_refusal}
use Rattle.broker_model.specs.Answers.{offset_reply, offset_at}
use Rattle.broker_events.specs.Replies.{IsReplyOf}
use Rattle.broker_core.proofs.ReadLemmas.{carries_refusal, carries_reply, reads_search, queue_rows, is_refused_as, is_allowed, refusal_search, asked_by}
use Rattle.broker_core.proofs.offsets.search.Goals as goal

pub returns-in-Some-clause-carries : goal.returns-in-Some-clause-carries
returns-in-Some-clause-carries c link host =
    let q = c.args.asked.now in
    let topic : c.as_str-topic.result.now ≡ q.topic = c.as_str-topic.ensures.value ∙ ap (λ (x : SearchSaid). x.topic) c.asked.view_is in
    let queue : c.asked.inside.queue ≡ q.queue = ap (λ (x : SearchSaid). x.queue) c.asked.view_is in
    let rows = queue_rows c.args.parts.now c.as_str-topic.result.now q.topic c.asked.inside.queue q.queue c.refuses_queue.result topic queue c.refuses_queue.ensures in
    carries_refusal c.args.parts.now (asked_by link host c.args.now (Search q)) c.in-Some.refused c.said.result
    (refusal_search c.args.parts.now q c.in-Some.refused (is_refused_as c.args.parts.now (λ (s : State). queue_refusal s q.topic q.queue) c.refuses_queue.result c.in-Some.refused rows c.in-Some.is)) c.said.ensures

pub returns-in-None-clause-carries : goal.returns-in-None-clause-carries
returns-in-None-clause-carries c link host =
    let old = c.args.parts.now in
    let q = c.args.asked.now in
    let topic : c.as_str-topic.result.now ≡ q.topic = c.as_str-topic.ensures.value ∙ ap (λ (x : SearchSaid). x.topic) c.asked.view_is in
    let queue : c.asked.inside.queue ≡ q.queue = ap (λ (x : SearchSaid). x.queue) c.asked.view_is in
    let rows = queue_rows old c.as_str-topic.result.now q.topic c.asked.inside.queue q.queue c.refuses_queue.result topic queue c.refuses_queue.ensures in
    carries_reply old c.tell.new.parts (asked_by link host c.args.now (Search q)) (λ (s : State). offset_reply (offset_at (seen s) q.topic q.queue q.time)) c.tell.result
    (reads_search old link host c.args.now q (is_allowed old (λ (s : State). queue_refusal s q.topic q.queue) c.refuses_queue.result rows c.in-None.is))
    c.requires.time c.tell.ensures.moved
    (λ s are. c.tell.ensures.told (offset_reply (offset_at (seen s) q.topic q.queue q.time))
    (subst (λ (n : ℕ). IfOk c.offset_reply-reply.result (λ (made : ReplyParts). IsReplyOf made (offset_reply n)))
    (c.first_at.ensures s are ∙ ap (λ (z : ℤ). offset_at (seen s) c.as_str-topic.result.now c.asked.inside.queue z) (to_z-of_z w64 c.asked.inside.time (search rules)) ∙ ap (λ (name : List ℕ). offset_at (seen s) name c.asked.inside.queue c.asked.inside.time) topic ∙ ap (λ (at : ℕ). offset_at (seen s) q.topic at c.asked.inside.time) queue ∙ ap (λ (x : SearchSaid). offset_at (seen s) q.topic q.queue x.time) c.asked.view_is)
    c.offset_reply-reply.ensures))
