-- What a fault of the disk is told as.
use Rattle.mq_outside.specs.declared.faults.DiskFault.{DiskFault}
use Rattle.mq_outside.specs.declared.faults.DiskFault.TheVariants as disk
use Rattle.log_recovery.specs.declared.fault.RecoverFault.{RecoverFault}
use Rattle.log_recovery.specs.declared.fault.RecoverFault.TheVariants.{Failed, Memory}

-- what a fault of the disk is told as
abbrev pub fault_of : DiskFault → RecoverFault
fault_of disk.Failed = Failed
fault_of disk.Memory = Memory
