use Rattle.std.proofs.Common.{ℕ, ◌+◌, ap}
use Rattle.log_model.proofs.OutsideLemmas.{outside_then}
use Rattle.gen_run.proofs.RoundLemmas.{last_acted}
use Rattle.gen_run.proofs.giving.last_rounds.Goals as goal

pub returns-in-Ok-clause-acted : goal.returns-in-Ok-clause-acted
returns-in-Ok-clause-acted g c = last_acted _ _ c.args.items _ (tt {0}) c.round-in-Ok.result _ _ _ _ _ _ (ap (λ (n : ℕ). 1000 + n + 3600000) c.from.ensures) c.in-Ok.ensures.acted c.round-in-Ok.ensures.acted

pub returns-in-Ok-clause-outside : goal.returns-in-Ok-clause-outside
returns-in-Ok-clause-outside g c tells = outside_then (c.in-Ok.ensures.outside tells) (c.round-in-Ok.ensures.outside tells)
