-- Bytes of a log file that are on the disk.
use Rattle.std.specs.Prelude.{◌≡◌, ℕ, ◌-◌, ◌≤◌, List, length, take, drop, Option, Some}
use Rattle.mq_bytes.specs.Names.{log_file}
use Rattle.mq_outside.specs.Files.{Files, bytes_of}
use Rattle.mq_outside.specs.Disk.{DiskState, IsCrashImage}

-- the bytes, where they are held, are so many
abbrev pub IsWhole : Option (List ℕ) → ℕ → Type 0
IsWhole held len = (bytes : List ℕ) → held ≡ Some bytes → length bytes ≡ len

-- the log file of this base has these bytes from this offset on
abbrev pub HasPiece : ℕ → ℕ → List ℕ → Files → Type 0
HasPiece base from bytes files = take (length bytes) (drop from (bytes_of files (log_file base))) ≡ bytes

-- the bytes that are read in a range of the log file of this base
abbrev pub stored_piece : ℕ → ℕ → ℕ → DiskState → List ℕ
stored_piece base from to disk = take (to - from) (drop from (bytes_of disk.reads (log_file base)))

-- the range lies in the log file, and every crash image has it as it is read
pub record IsStored (base from to : ℕ) (disk : DiskState) : Type 0 where
  pub ordered : from ≤ to
  pub within : to ≤ length (bytes_of disk.reads (log_file base))
  pub durable : (files : Files) → IsCrashImage disk files → HasPiece base from (stored_piece base from to disk) files
