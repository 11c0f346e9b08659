use Rattle.session.proofs.ReaderLemmas.{puts_written}
use Rattle.session.proofs.session.Session.put.Goals as goal

pub returns-else-caller-clause-put : goal.returns-else-caller-clause-put
returns-else-caller-clause-put g c =
    let faults = g.R.Reader.faults in
    puts_written c.write_reply.result g.R.Reader.gives c.args.caller c.args.reply (faults c.args.reader.now) (faults c.write_reply.new.reader) c.args.self.now.out.items
    c.write_reply.new.out.items c.if-caller.false c.write_reply.ensures.written
