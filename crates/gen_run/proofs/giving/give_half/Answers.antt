use Rattle.std.specs.declared.alloc.AllocError.{AllocError}
use Rattle.gen_run.proofs.AskLemmas.{asked_any, asked_both, half_settled}
use Rattle.gen_run.proofs.giving.give_half.Goals as goal

pub returns-in_default-take_half-clause-asked : goal.returns-in_default-take_half-clause-asked
returns-in_default-take_half-clause-asked g c = asked_any _ _ _ _ c.in-Ok.ensures.asked

pub returns-in-Ok-give_verdict-clause-asked : goal.returns-in-Ok-give_verdict-clause-asked
returns-in-Ok-give_verdict-clause-asked g c =
    half_settled _ AllocError c.args.start c.args.item c.args.kind c.args.verdict c.in-Some.queue_offset c.in-Some.place c.in-Ok.sent c.in-Ok-give_verdict.settled (tt {0}) _ _ _
    c.in-Some.ensures.names c.in-Ok.ensures.asked c.in-Ok-give_verdict.ensures.asked

pub returns-in-Err-clause-asked : goal.returns-in-Err-clause-asked
returns-in-Err-clause-asked g c = asked_both _ _ _ _ _ _ c.in-Ok.ensures.asked c.in-Err.ensures.asked
