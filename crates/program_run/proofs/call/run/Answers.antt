use Rattle.program_run.proofs.Acknowledging.{served_stand}
use Rattle.program_run.proofs.Stands.{answered_stand}
use Rattle.program_run.proofs.call.run.Goals as goal

pub returns-clause-answered : goal.returns-clause-answered
returns-clause-answered g c = λ links not_usage. answered_stand _ _ _ _ (c.run_pipe-status.ensures.fits not_usage)

pub returns-then-asks_links-clause-acknowledged : goal.returns-then-asks_links-clause-acknowledged
returns-then-asks_links-clause-acknowledged g c = λ links. served_stand _ _ _ c.run_serve.result.core c.run_serve.ensures.served
