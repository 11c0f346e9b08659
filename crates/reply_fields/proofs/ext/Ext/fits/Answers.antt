use Rattle.reply_fields.proofs.SentLemmas.{sent_fits}
use Rattle.reply_fields.proofs.ext.Ext.fits.Goals as goal

pub returns-in-Numbers : goal.returns-in-Numbers
returns-in-Numbers c = sent_fits c.self.inside.kept c.in-Numbers.field-0 c.args.self.now c.args.most c.in-Numbers.is c.self.view_is c.self.invariant c.requires.most
