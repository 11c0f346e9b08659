use Rattle.std.proofs.Common.{sym, subst}
use Rattle.mq_outside.specs.Disk.{IsCrashImage}
use Rattle.log_model.proofs.StoreLemmas.{stores_again}
use Rattle.log_model.proofs.laws.a_crashed_disk_stores_the_log.Goals as goal

pub returns : goal.returns
returns given c = λ tells tells_too S log flushed files stores image each.
    stores_again S log flushed _ _ (λ other there. subst (IsCrashImage (given.D.Disk.state c.args.before.now)) (sym (each.at other there)) image) stores
