-- The names of the log's files.
use Rattle.std.specs.Prelude.{◌≡◌, ◌≢◌, ◌⊎◌, ℕ, ◌*◌, ◌/◌, ◌^◌, ◌<◌, ◌≤◌, List, ℤ, pos, negsuc, Option, Some, None}
use Rattle.mq_bytes.specs.Names.{log_file}
use Rattle.mq_outside.specs.Files.{Files}
use Rattle.log_model.specs.Bases.{Geometry, first_segment}
use Rattle.log_model.specs.Segments.{segment_file, IsLogFile}
use Rattle.log_model.specs.Store.{ComesNext}

-- no file of the log's folder stands behind those of the first n segments
abbrev pub NoFurther : Geometry → ℕ → Files → Type 0
NoFurther S n files = (name : List ℕ) → IsLogFile name → ((k : ℕ) → k < n → name ≢ segment_file S k) → files name ≡ None

-- the segments from the first one to n have their files, in byte order before all others of the log's folder
abbrev pub AreNamed : Geometry → ℕ → Files → Type 0
AreNamed S n files = (k : ℕ) → first_segment S ≤ k → k < n → (k * S.size < 2 ^ 63) × ComesNext S k files (segment_file S k)

-- the file that comes next isn't the next segment's, or that one begins too far
pub record IsOdd (S : Geometry) (n : ℕ) (files : Files) (name : List ℕ) : Type 0 where
  pub next : ComesNext S n files name
  pub other : (name ≢ segment_file S n) ⊎ (2 ^ 63 ≤ n * S.size)

-- the file of a segment of S bytes before the one that begins at this place
abbrev pub IsRemoved : ℕ → ℕ → List ℕ → Type 0
IsRemoved S place name = (k : ℕ) × (k < place / S) × (name ≡ log_file (k * S))

-- the number, where it isn't negative
abbrev pub not_negative : Option ℤ → Option ℕ
not_negative None = None
not_negative (Some (pos n)) = Some n
not_negative (Some (negsuc n)) = None
