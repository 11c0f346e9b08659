use Rattle.std.proofs.Common.{ap}
use Rattle.gen_run.proofs.EndLemmas.{wrote_foreign, other_code, other_as, other_told, damage_as, damage_told}
use Rattle.gen_run.proofs.run.end_stopped.Goals as goal

pub returns-then-is_damaged-clause-status : goal.returns-then-is_damaged-clause-status
returns-then-is_damaged-clause-status g c = damage_as c.end_in_damage.result.status c.args.status c.end_in_damage.ensures.known c.if-is_damaged.true

pub returns-then-is_damaged-clause-same : goal.returns-then-is_damaged-clause-same
returns-then-is_damaged-clause-same g c = damage_told c.end_in_damage.result.status c.args.status c.end_in_damage.ensures.known c.end_in_damage.ensures.same

pub returns-clause-wrote : goal.returns-clause-wrote
returns-clause-wrote g c =
    wrote_foreign c.end_unopened.result.status _ c.end_unopened.ensures.line (other_code c.end_unopened.result.status c.args.status c.end_unopened.ensures.status c.if-is_damaged.false) (λ other. ap g.K.Sink.taken (c.end_unopened.ensures.nothing other))

pub returns-clause-status : goal.returns-clause-status
returns-clause-status g c = other_as c.end_unopened.result.status c.args.status c.end_unopened.ensures.status

pub returns-clause-same : goal.returns-clause-same
returns-clause-same g c = other_told c.end_unopened.result.status c.args.status c.end_unopened.ensures.status
