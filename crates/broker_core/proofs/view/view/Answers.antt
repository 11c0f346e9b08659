use Rattle.std.proofs.Common.{ap, subst, ℕ, [], IfOk}
use Rattle.reply_fields.specs.Parts.{ReplyParts}
use Rattle.request_fields.specs.Requests.{ViewSaid}
use Rattle.request_fields.specs.declared.request.Request.TheVariants.{ViewById}
use Rattle.broker_model.specs.State.{State, seen}
use Rattle.broker_model.specs.Answers.{found_reply, viewed}
use Rattle.broker_events.specs.Replies.{IsReplyOf}
use Rattle.broker_core.proofs.ReadLemmas.{carries_reply, asked_by}
use Rattle.broker_core.proofs.AskedLemmas.{reads_view}
use Rattle.broker_core.proofs.view.view.Goals as goal

pub returns-clause-carries : goal.returns-clause-carries
returns-clause-carries c link host =
    let old = c.args.parts.now in
    let q = c.args.asked.now in
    carries_reply old c.tell.new.parts (asked_by link host c.args.now (ViewById q)) (λ (s : State). found_reply [] (viewed (seen s).records q.offset)) c.tell.result
    (reads_view old link host c.args.now q) c.requires.time c.tell.ensures.moved
    (λ s are. c.tell.ensures.told (found_reply [] (viewed (seen s).records q.offset))
    (subst (λ (place : ℕ). IfOk c.view_reply-reply.result (λ (made : ReplyParts). IsReplyOf made (found_reply [] (viewed (seen s).records place))))
    (ap (λ (x : ViewSaid). x.offset) c.asked.view_is) (c.view_reply-reply.ensures s are)))
