use Rattle.std.proofs.Common.{rules, ℤ, subst}
use Rattle.std.proofs.lemmas.Int.{to_z-of_z}
use Rattle.std.specs.Int.{w32}
use Rattle.reply_fields.specs.Replies.{AppendsReply}
use Rattle.pipe_stream.proofs.TellingLemmas.{unread_appended}
use Rattle.pipe_stream.proofs.telling.append_unread.Goals as goal

pub returns-in-Ok : goal.returns-in-Ok
returns-in-Ok g c =
    let written = subst (λ (z : ℤ). AppendsReply g.R.Reader.gives c.args.caller.form z c.in_ok-reply.reply c.args.out.now.items c.write.new.out.items)
    (to_z-of_z w32 c.args.caller.opaque (search rules)) c.in-Ok.ensures.written in
    unread_appended _ c.args.caller _ _ c.fault_count.result _ _ _ c.in_ok-reply.ensures c.fault_count.ensures c.in-Ok.ensures.cause written
