-- What ended a run, by its status, where `pipe` and `serve` end alike.
use Rattle.std.specs.Prelude.{◌≡◌, ◌≢◌, ◌⊎◌, ℕ, List, codes, Result, Ok, Err}
use Rattle.mq_outside.specs.declared.faults.DiskFault.{DiskFault}
use Rattle.mq_outside.specs.declared.faults.DiskFault.TheVariants as device
use Rattle.log_recovery.specs.declared.fault.RecoverFault.{RecoverFault}
use Rattle.log_recovery.specs.declared.fault.RecoverFault.TheVariants as recovery
use Rattle.config_store.specs.declared.config.ConfigFault.{ConfigFault}
use Rattle.config_store.specs.declared.config.ConfigFault.TheVariants as config
use Rattle.store_open.specs.declared.status.Status.{Status}

-- a status that reports that this device failed, or that there was no memory to report it
abbrev pub TellsDevice : Status → List ℕ → Type 0
TellsDevice status name = ((status.code ≡ 10) × (status.name ≡ name)) ⊎ (status.code ≡ 7)

-- the status tells why the log was not recovered
abbrev pub StatusTellsFault : Status → RecoverFault → Type 0
StatusTellsFault status (recovery.Damaged place name) = (status.code ≡ 8) × (status.place ≡ place) × (status.name ≡ name)
StatusTellsFault status recovery.Failed = status.code ≡ 5
StatusTellsFault status recovery.Memory = status.code ≡ 7

-- the status tells why the kept files were not loaded, or that there was no memory to report it
abbrev pub StatusTellsConfig : Status → ConfigFault → Type 0
StatusTellsConfig status (config.BadText name) =
    ((status.code ≡ 8) × (status.place ≡ 0) × (status.name ≡ name.now)) ⊎ (status.code ≡ 7)
StatusTellsConfig status config.Failed = TellsDevice status (codes "keep")
StatusTellsConfig status config.Memory = status.code ≡ 7

-- The status that is reported where the kept files were replaced or not, and would be reported of all before: out of memory comes
-- before all else, and that the keep failed is reported where nothing else is.
abbrev pub StatusKept : {A : Type 0} → Status → Status → Result A DiskFault → Type 0
StatusKept status else_told (Ok done) = status ≡ else_told
StatusKept status else_told (Err device.Memory) = status.code ≡ 7
StatusKept status else_told (Err device.Failed) =
    ((else_told.code ≡ 0) × TellsDevice status (codes "keep")) ⊎ ((else_told.code ≢ 0) × (status ≡ else_told))
