use Rattle.std.proofs.Common.{◌∙◌}
use Rattle.reply_fields.proofs.AskLemmas.{short_ask}
use Rattle.reply_fields.proofs.ask.header_of.Goals as goal

pub returns-clause-short : goal.returns-clause-short
returns-clause-short c = short_ask c.args.view.now _ _ (c.of-remark.ensures ∙ c.new.ensures.bytes) c.in_ok-ext.ensures.fields c.requires c.in_ok-ext.ensures.host
