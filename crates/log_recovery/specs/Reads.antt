-- What a call does that only reads the disk.
use Rattle.std.specs.Prelude.{◌≡◌, Result}
use Rattle.mq_outside.specs.Disk.{Rests}
use Rattle.mq_outside.specs.declared.disk.Disk.{Ghosts}
use Rattle.log_recovery.specs.declared.fault.RecoverFault.{RecoverFault}
use Rattle.log_recovery.specs.Recovered.{CountsRecoverFault}

-- nothing is changed, no sync is asked for, and the count of failures rises at Failed alone
pub record OnlyReads {Disk Reader A : Type 0} (D : Ghosts Disk Reader) (result : Result A RecoverFault) (old new : Disk) : Type 0 where
  pub rests : D.tells → Rests (D.state old) (D.state new)
  pub cause : CountsRecoverFault result (D.faults old) (D.faults new)
  pub syncs : D.syncs new ≡ D.syncs old
