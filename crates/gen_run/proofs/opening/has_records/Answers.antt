use Rattle.log_model.specs.Told.{base_of}
use Rattle.gen_run.proofs.DamageLemmas.{keeps_none}
use Rattle.gen_run.proofs.opening.has_records.Goals as goal

pub returns-in-Ok-clause-none : goal.returns-in-Ok-clause-none
returns-in-Ok-clause-none g c = λ tells no. keeps_none (base_of c.none-base.result) c.args.segment _ (g.D.Disk.state c.args.disk.now).reads c.none-base.ensures (c.in-Ok.ensures.kept tells)
