use Rattle.std.proofs.Common.{rules, ℤ, subst}
use Rattle.std.proofs.lemmas.Int.{to_z-of_z}
use Rattle.std.specs.Int.{w32}
use Rattle.reply_fields.specs.Replies.{AppendsReply}
use Rattle.session.proofs.ReaderLemmas.{writes_unread}
use Rattle.session.proofs.owed.write_reply.Goals as goal

pub returns-in-Ok-write-clause-written : goal.returns-in-Ok-write-clause-written
returns-in-Ok-write-clause-written g c =
    let faults = g.R.Reader.faults in
    let wrote = subst (λ (z : ℤ). AppendsReply g.R.Reader.gives c.args.caller.form z c.in_ok-refusal.refusal c.write.new.out.items c.write-2.new.out.items)
    (to_z-of_z w32 c.args.caller.opaque (search rules)) c.in-Ok-write.ensures.written in
    writes_unread g.R.Reader.gives c.args.caller c.args.reply c.in-Err.fault (faults c.args.reader.now) (faults c.write.new.reader) (faults c.write-2.new.reader) c.fault_count.result
    c.in_ok-refusal.refusal c.args.out.now.items c.write.new.out.items c.write-2.new.out.items c.in-Err.ensures.cause c.fault_count.ensures c.in-Ok-write.ensures.cause c.in_ok-refusal.ensures
    c.in-Err.ensures.err wrote
