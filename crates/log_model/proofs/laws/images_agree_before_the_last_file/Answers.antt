use Rattle.log_model.proofs.Longer.{stores_durable}
use Rattle.log_model.proofs.laws.images_agree_before_the_last_file.Goals as goal

pub returns : goal.returns
returns given c = λ tells S log flushed k stores past low. stores_durable S log flushed k _ (given.met.D.Disk.reads_is_image c.args.disk.now tells) stores past low
