use Rattle.reply_fields.proofs.SentLemmas.{sent_in_order}
use Rattle.reply_fields.proofs.ext.Ext.sent.Goals as goal

pub returns-clause-ordered : goal.returns-clause-ordered
returns-clause-ordered c = sent_in_order c.args.sent
