-- What stands at a place of the log, as it is read.
use Rattle.std.specs.Prelude.{◌≡◌, ℕ, ◌/◌, ◌%◌, List, drop}
use Rattle.mq_outside.specs.Files.{bytes_of}
use Rattle.mq_outside.specs.Disk.{DiskState}
use Rattle.record_codec.specs.Entry.{Entry}
use Rattle.record_codec.specs.Layout.{size}
use Rattle.log_model.specs.Bases.{whole}
use Rattle.log_model.specs.declared.fault.LoadFault.{LoadFault}
use Rattle.log_model.specs.declared.fault.LoadFault.TheVariants.{Damaged, Failed, Memory}
use Rattle.log_model.specs.Segments.{segment_file}
use Rattle.log_model.specs.Store.{StartsWith}

-- what stands from this place on in the file of its segment
abbrev pub bytes_from : ℕ → ℕ → DiskState → List ℕ
bytes_from S place disk = drop (place % S) (bytes_of disk.reads (segment_file (whole S) (place / S)))

-- this record stands there, and has so many bytes
pub record IsRecordAt (S place n : ℕ) (disk : DiskState) (r : Entry) : Type 0 where
  pub starts : StartsWith (bytes_from S place disk) r
  pub long : size r ≡ n

-- the place and its file are told, and no record of so many bytes stands there
pub record IsDamage (S place n : ℕ) (disk : DiskState) (told : ℕ) (file : List ℕ) : Type 0 where
  pub at : told ≡ place
  pub name : file ≡ segment_file (whole S) (place / S)
  pub none : (r : Entry) → IsRecordAt S place n disk r → ⊥

-- where the fault tells of damage, it is there
abbrev pub TellsDamage : ℕ → ℕ → ℕ → DiskState → LoadFault → Type 0
TellsDamage S place n disk (Damaged told file) = IsDamage S place n disk told file
TellsDamage S place n disk Failed = Unit {0}
TellsDamage S place n disk Memory = Unit {0}

-- the fault is damage that tells this place and this file, or want of memory
abbrev pub SaysWhere : ℕ → List ℕ → LoadFault → Type 0
SaysWhere place name (Damaged told file) = (told ≡ place) × (file ≡ name)
SaysWhere place name Failed = ⊥
SaysWhere place name Memory = Unit {0}
