use Rattle.std.proofs.Common.{subst, List, ℕ, IfOk}
use Rattle.reply_fields.specs.Parts.{ReplyParts}
use Rattle.log_model.specs.Keys.{query_of}
use Rattle.broker_model.specs.State.{seen}
use Rattle.broker_model.specs.Answers.{found_reply}
use Rattle.broker_events.specs.Replies.{IsReplyOf}
use Rattle.broker_core.proofs.query.query_reply.Goals as goal

pub returns : goal.returns
returns c s are =
    let q = c.args.asked.now in
    let records = query_of (seen s).records q.topic q.key q.from q.to q.most in
    subst (λ (ext : List (List ℕ × List ℕ)). IfOk c.found.result (λ (reply : ReplyParts). IsReplyOf reply (found_reply ext records))) c.in_ok-query_fields.ensures.fields
    (c.found.ensures records (c.in_ok-slices.ensures.found s are))
