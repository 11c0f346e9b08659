use Rattle.std.proofs.Common.{rules, ℤ, inl, subst}
use Rattle.std.proofs.lemmas.Int.{to_z-of_z}
use Rattle.std.specs.Int.{w32}
use Rattle.reply_fields.specs.Replies.{AppendsReply}
use Rattle.pipe_stream.proofs.TellingLemmas.{told_unread}
use Rattle.pipe_stream.proofs.telling.append_reply.Goals as goal

pub returns-in-Ok : goal.returns-in-Ok
returns-in-Ok g c =
    inl (subst (λ (z : ℤ). AppendsReply g.R.Reader.gives c.args.caller.form z c.args.reply c.args.out.now.items c.write.new.out.items)
    (to_z-of_z w32 c.args.caller.opaque (search rules)) c.in-Ok.ensures.written)

pub returns-in-Err-Failed : goal.returns-in-Err-Failed
returns-in-Err-Failed g c =
    told_unread _ c.args.caller c.args.reply _ _ _ _ _ _ c.append_unread.result (rw c.in-Err-Failed.field-0-is at c.in-Err-Failed.ensures.cause) c.in-Err-Failed.ensures.err
    c.append_unread.ensures
