use Rattle.std.specs.declared.alloc.AllocError.{AllocError}
use Rattle.gen_run.proofs.AskLemmas.{asked_none, pull_found, pull_failed}
use Rattle.gen_run.proofs.giving.give_pull.Goals as goal

pub returns-in_default-clause-asked : goal.returns-in_default-clause-asked
returns-in_default-clause-asked g c = asked_none _ _ _ tt

pub returns-in-Ok-ask-clause-asked : goal.returns-in-Ok-ask-clause-asked
returns-in-Ok-ask-clause-asked g c = pull_found _ AllocError c.args.start c.args.item c.found_by.result _ _ c.in-Ok-ask.reply _ _ c.time_of.ensures c.in-Ok.ensures c.found_by.ensures.found c.in-Ok-ask.ensures.asked

pub returns-in-Err-clause-asked : goal.returns-in-Err-clause-asked
returns-in-Err-clause-asked g c = pull_failed _ c.args.start c.args.item _ _ c.in-Err.fault _ _ c.in-Err.ensures.asked
