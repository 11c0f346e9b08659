use Rattle.gen_run.proofs.AskLemmas.{asked_none, verdict_asked}
use Rattle.gen_run.proofs.giving.give_verdict.Goals as goal

pub returns-in_default-clause-asked : goal.returns-in_default-clause-asked
returns-in_default-clause-asked g c = asked_none _ _ _ tt

pub returns-clause-asked : goal.returns-clause-asked
returns-clause-asked g c = verdict_asked _ c.args.item c.args.queue_offset c.args.place c.args.verdict _ _ c.ask.result _ _ c.time_of.ensures c.in-Ok.ensures c.ask.ensures.asked
