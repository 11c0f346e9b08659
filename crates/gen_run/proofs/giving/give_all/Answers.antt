use Rattle.std.proofs.Common.{arith}
use Rattle.log_model.proofs.OutsideLemmas.{outside_then}
use Rattle.gen_run.proofs.RoundLemmas.{some_acted, all_acted}
use Rattle.gen_run.proofs.giving.give_all.Goals as goal

pub returns-in-Err-last_rounds-clause-acted : goal.returns-in-Err-last_rounds-clause-acted
returns-in-Err-last_rounds-clause-acted g c =
    some_acted _ _ c.args.start c.args.items c.args.items c.in-Ok.found _ _ _ _ _ _ _ (omega arith) c.in-Ok.ensures.acted c.in-Err-last_rounds.ensures.acted

pub returns-in-Err-last_rounds-clause-outside : goal.returns-in-Err-last_rounds-clause-outside
returns-in-Err-last_rounds-clause-outside g c tells = outside_then (c.in-Ok.ensures.outside tells) (c.in-Err-last_rounds.ensures.outside tells)

pub returns-in-Ok-last_rounds-clause-acted : goal.returns-in-Ok-last_rounds-clause-acted
returns-in-Ok-last_rounds-clause-acted g c = all_acted _ _ c.args.start c.args.items c.in-Ok.found (tt {0}) _ _ _ _ _ _ c.in-Ok.ensures.acted c.in-Ok-last_rounds.ensures.acted

pub returns-in-Ok-last_rounds-clause-outside : goal.returns-in-Ok-last_rounds-clause-outside
returns-in-Ok-last_rounds-clause-outside g c tells = outside_then (c.in-Ok.ensures.outside tells) (c.in-Ok-last_rounds.ensures.outside tells)
