use Rattle.gen_run.proofs.AskLemmas.{asked_none, send_asked}
use Rattle.gen_run.proofs.giving.give_send.Goals as goal

pub returns-in_default-clause-asked : goal.returns-in_default-clause-asked
returns-in_default-clause-asked g c = asked_none _ _ _ tt

pub returns-clause-asked : goal.returns-clause-asked
returns-clause-asked g c = send_asked _ c.args.start c.args.item c.args.kind _ _ c.ask.result _ _ c.time_of.ensures c.in-Ok.ensures c.ask.ensures.asked
