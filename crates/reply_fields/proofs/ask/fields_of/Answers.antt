use Rattle.std.proofs.Common.{◌≡◌, rules, subst, sym}
use Rattle.remoting_frame.specs.Head.{IsInOrder}
use Rattle.reply_fields.specs.Asks.{ask_fields}
use Rattle.reply_fields.proofs.AskLemmas.{ask_in_order}
use Rattle.reply_fields.proofs.ask.fields_of.Goals as goal

pub returns-clause-ordered : goal.returns-clause-ordered
returns-clause-ordered c =
    let fields : c.fill_fields.new.fields ≡ ask_fields c.args.view.now = search rules in
    subst IsInOrder (sym fields) (ask_in_order c.args.view.now)
