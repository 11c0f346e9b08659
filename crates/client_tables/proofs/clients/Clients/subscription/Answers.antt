use Rattle.std.proofs.Common.{◌∙◌}
use Rattle.client_tables.proofs.HeardLemmas.{words_heard}
use Rattle.client_tables.proofs.clients.Clients.subscription.Goals as goal

pub returns : goal.returns
returns c = λ t has. c.words.ensures ∙ words_heard c.args.self.now.heard c.args.self.now.beats t c.args.group.now c.args.topic.now has.heard
