-- What a disk or a keep holds: what a read gives, and what a crash may leave at each moment.
use Rattle.std.specs.Prelude.{◌≡◌, ℕ, ◌+◌, ◌≤◌, List, take, drop}
use Rattle.mq_outside.specs.Files.{Files, bytes_of}

-- What is read now, the moment (a number that a call raises by at most one), and the crash images of each moment so far:
-- which files a crash there may leave. A range is fresh if this process wrote all of it (of the file of this name, from this
-- offset on, so many bytes) since the last sync of the file that failed.
pub record DiskState : Type 1 where
  pub reads : Files
  pub moment : ℕ
  pub image_at : ℕ → Files → Type 0
  pub fresh : List ℕ → ℕ → ℕ → Type 0

-- what a crash now may leave
abbrev pub IsCrashImage : DiskState → Files → Type 0
IsCrashImage disk files = disk.image_at disk.moment files

-- One call of the disk: what is read changes by the step, and so does each crash image. The images of past moments stay.
pub record Moves (step : Files → Files → Type 0) (old new : DiskState) : Type 0 where
  pub reads : step old.reads new.reads
  pub later : old.moment ≤ new.moment
  pub by_one : new.moment ≤ old.moment + 1
  pub past : (m : ℕ) (files : Files) → m ≤ old.moment → new.image_at m files → old.image_at m files
  pub kept : (m : ℕ) (files : Files) → m ≤ old.moment → old.image_at m files → new.image_at m files
  pub crash : (files : Files) → IsCrashImage new files → (before : Files) × IsCrashImage old before × step before files

-- each crash image of now has P
pub record EachImage (P : Files → Type 0) (disk : DiskState) : Type 0 where
  pub at : (files : Files) → IsCrashImage disk files → P files

-- From old to new, at each moment, a crash leaves only what has P. What was said of earlier moments stays.
pub record Throughout (old new : DiskState) (P : Files → Type 0) : Type 0 where
  pub later : old.moment ≤ new.moment
  pub each : (m : ℕ) (files : Files) → old.moment ≤ m → m ≤ new.moment → new.image_at m files → P files
  pub past : (m : ℕ) (files : Files) → m ≤ old.moment → new.image_at m files → old.image_at m files
  pub kept : (m : ℕ) (files : Files) → m ≤ old.moment → old.image_at m files → new.image_at m files

-- from old to new nothing was changed: the same is read, and a crash leaves only what it might have left
pub record Rests (old new : DiskState) : Type 0 where
  pub same : new.reads ≡ old.reads
  pub quiet : Throughout old new (IsCrashImage old)

-- every crash image has the file as it is read
abbrev pub IsDurable : List ℕ → DiskState → Type 0
IsDurable name disk = (files : Files) → IsCrashImage disk files → files name ≡ disk.reads name

-- the files have this range of the file (from this offset on, so many bytes) as it is read
abbrev pub AgreesOn : List ℕ → ℕ → ℕ → Files → Files → Type 0
AgreesOn name from n reads files = take n (drop from (bytes_of files name)) ≡ take n (drop from (bytes_of reads name))

-- n bytes were written at this offset: they are fresh, and so is a fresh range that ended there, together with them
pub record Freshens (name : List ℕ) (at n : ℕ) (old new : DiskState) : Type 0 where
  pub piece : new.fresh name at n
  pub longer : (from before : ℕ) → from + before ≡ at → old.fresh name from before → new.fresh name from (before + n)

-- every crash image now has each range of the file that was fresh, as it is read
abbrev pub IsFreshDurable : List ℕ → DiskState → DiskState → Type 0
IsFreshDurable name old new = (from n : ℕ) → old.fresh name from n → EachImage (AgreesOn name from n new.reads) new
