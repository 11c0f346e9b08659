use Rattle.std.proofs.Common.{sym, subst, List, ℕ, IfOk}
use Rattle.remoting_frame.specs.Head.{IsInOrder}
use Rattle.reply_fields.specs.Parts.{ReplyParts}
use Rattle.reply_fields.proofs.ReplyLemmas.{none_in_order}
use Rattle.broker_model.specs.State.{seen}
use Rattle.broker_model.specs.Answers.{found_reply, viewed}
use Rattle.broker_events.specs.Replies.{IsReplyOf}
use Rattle.broker_core.proofs.view.view_reply.Goals as goal

pub returns : goal.returns
returns c s are =
    let records = viewed (seen s).records c.args.place in
    subst (λ (ext : List (List ℕ × List ℕ)). IfOk c.found.result (λ (reply : ReplyParts). IsReplyOf reply (found_reply ext records))) c.new.ensures
    (c.found.ensures records (c.in_ok-slices.ensures.found s are))

pub found-requires-clause-ordered : goal.found-requires-clause-ordered
found-requires-clause-ordered c = subst (λ (ext : List (List ℕ × List ℕ)). IsInOrder ext) (sym c.new.ensures) none_in_order
