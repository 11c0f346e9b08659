use Rattle.broker_serve.proofs.Telling.{left_tells}
use Rattle.std.proofs.Common.{ℕ, sym, subst}
use Rattle.serve_threads.specs.Causes.{counts_of, world_faults}
use Rattle.broker_serve.specs.Causes.{Causes}
use Rattle.broker_serve.proofs.Causing.{served_causes}
use Rattle.broker_serve.proofs.run.ended_of.Goals as goal

pub returns-clause-tells : goal.returns-clause-tells
returns-clause-tells g c = left_tells _ _ _ _ _ c.last_status.ensures.tells c.status_kept.ensures.tells

pub returns-clause-cause : goal.returns-clause-cause
returns-clause-cause g c = λ before causes.
    subst (λ (n : ℕ). Causes c.status_kept.result before (counts_of n (g.E.Keep.faults c.args.served.keep)
    (world_faults g.P.Ready.faults g.P.Door.Door.faults g.K.Clock.faults c.args.served.world))) (sym c.give_back.ensures.alike.faults)
    (served_causes c.status_kept.result before _ _ _ _ (returns-clause-tells g c) causes)
