-- What recovery makes of the files, step by step.
use Rattle.std.specs.Prelude.{◌≡◌, ◌⊎◌, ◌↔◌, ℕ, ◌<◌, ◌≤◌, List, take, None, IsSome}
use Rattle.mq_outside.specs.Files.{Files, bytes_of, At, Shortened}
use Rattle.mq_outside.specs.Disk.{DiskState, IsCrashImage, EachImage, Throughout}
use Rattle.log_model.specs.Bases.{whole}
use Rattle.log_model.specs.Segments.{segment_file}

-- an image that comes from one of the old disk by this change
pub record ComesFrom (change : Files → Files → Type 0) (old : DiskState) (files : Files) : Type 0 where
  pub before : Files
  pub image : IsCrashImage old before
  pub changed : change before files

-- From old to new, at each moment, each crash image comes from one of old by this change, and so does what is read.
pub record Turns (change : Files → Files → Type 0) (old new : DiskState) : Type 0 where
  pub reads : change old.reads new.reads
  pub images : Throughout old new (ComesFrom change old)

-- each file stays as it was, or it is one of those behind segment m up to segment n, and gone
abbrev pub IsPruned : ℕ → ℕ → ℕ → Files → Files → Type 0
IsPruned S m n old new = (name : List ℕ) → (new name ≡ old name) ⊎ ((new name ≡ None)
    × ((k : ℕ) × (m < k) × (k ≤ n) × (name ≡ segment_file (whole S) k)))

-- the files behind segment m up to segment n are gone
abbrev pub IsGone : ℕ → ℕ → ℕ → Files → Type 0
IsGone S m n files = (k : ℕ) → m < k → k ≤ n → files (segment_file (whole S) k) ≡ None

-- this file is cut to some length between, and the others stay
abbrev pub IsCut : List ℕ → ℕ → Files → Files → Type 0
IsCut name len old new = At name (Shortened len) old new

-- this file has its first bytes, so many, of what was read of it, and it is there where it was read
pub record CutsTo (name : List ℕ) (len : ℕ) (read files : Files) : Type 0 where
  pub bytes : bytes_of files name ≡ take len (bytes_of read name)
  pub there : IsSome (files name) ↔ IsSome (read name)

-- the files behind segment m are gone, and then its file is cut
pub record IsTrimmed (S m n len : ℕ) (old new : Files) : Type 0 where
  pub mid : Files
  pub pruned : IsPruned S m n old mid
  pub gone : IsGone S m n mid
  pub cut : IsCut (segment_file (whole S) m) len mid new

-- on the way each crash image is pruned, or trimmed; at the end all are the one, or all the other
pub record Settles (S m n len : ℕ) (old new : DiskState) : Type 0 where
  pub images : Throughout old new (λ files. ComesFrom (IsPruned S m n) old files ⊎ ComesFrom (IsTrimmed S m n len) old files)
  pub now : EachImage (ComesFrom (IsPruned S m n) old) new ⊎ EachImage (ComesFrom (IsTrimmed S m n len) old) new
  pub reads : IsPruned S m n old.reads new.reads ⊎ IsTrimmed S m n len old.reads new.reads

-- each image is trimmed, and has of the last file just its first bytes
pub record IsSettledAt (S m n len : ℕ) (old : DiskState) (files : Files) : Type 0 where
  pub trimmed : ComesFrom (IsTrimmed S m n len) old files
  pub last : CutsTo (segment_file (whole S) m) len old.reads files
