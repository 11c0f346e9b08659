use Rattle.std.proofs.Common.{◌≡◌, ◌∙◌, ◌++◌, ap, sym, rules}
use Rattle.remoting_frame.specs.Head.{Head}
use Rattle.remoting_frame.specs.Headers.{front_bytes}
use Rattle.reply_fields.proofs.ReplyLemmas.{appends-reply}
use Rattle.reply_fields.proofs.reply.write_frame.Goals as goal

pub returns-in-Ok-write_body-clause-written : goal.returns-in-Ok-write_body-clause-written
returns-in-Ok-write_body-clause-written g c = λ reply head same.
    let begun : c.write_front.new.out.items ≡ c.args.out.now.items ++ front_bytes c.args.form c.args.header.now c.size_of-size.result = search rules in
    appends-reply g.R.Reader.gives c.args.form c.args.header.now.opaque reply c.args.slices.now c.size_of-size.result c.args.out.now.items c.write_front.new.out.items c.write_body.new.out.items (sym same)
    c.size_of-size.ensures (begun ∙ ap (λ (h : Head). c.args.out.now.items ++ front_bytes c.args.form h c.size_of-size.result) (sym head)) c.in-Ok-write_body.ensures.body
