use Rattle.std.proofs.Common.{arith, codes}
use Rattle.log_model.proofs.MadeLemmas.{prop_low}
use Rattle.log_model.proofs.made.real_topic_len.Goals as goal

pub returns-in-Some-clause-low : goal.returns-in-Some-clause-low
returns-in-Some-clause-low c =
    omega (arith, prop_low (codes "REAL_TOPIC") c.in-Some.topic.now c.args.view.now c.in-Some.ensures, c.size-whole.ensures, c.size-whole.type_inv)
