-- What recovery keeps of any files, which crash images are honest, and when a disk stores a log.
use Rattle.std.specs.Prelude.{◌≡◌, ◌≢◌, ◌⊎◌, ℕ, zero, suc, ◌+◌, ◌-◌, ◌*◌, ◌/◌, ◌%◌, ◌^◌, ◌<◌, ◌≤◌, List}
use Rattle.std.specs.Prelude.{[], ◌∷◌, ◌++◌, length, take, drop, slice_get, Some, None, IsSome, IsTrue}
use Rattle.std.specs.Ordering.{nat_cmp, is_lt}
use Rattle.std.specs.Cmp.Lexicographic.{slice_cmp}
use Rattle.mq_outside.specs.Files.{Files, bytes_of}
use Rattle.mq_outside.specs.Disk.{DiskState, IsCrashImage, EachImage}
use Rattle.record_codec.specs.Entry.{Entry}
use Rattle.record_codec.specs.Layout.{layout, IsRecord}
use Rattle.record_codec.specs.Blanks.{blank_front}
use Rattle.log_model.specs.Bases.{Geometry, first_segment}
use Rattle.log_model.specs.Log.{Follows, IsWellFormed}
use Rattle.log_model.specs.Segments.{Shape, layouts, added, opened, used, next_segment, segment_start, end_in, shape_of}
use Rattle.log_model.specs.Segments.{segment_file, last_name, last_bytes, AreClosed, IsLogFile, Counts, NoOther}

-- ---- what stands where

-- a record stands at the front of these bytes
pub record StartsWith (bytes : List ℕ) (r : Entry) : Type 0 where
  pub is : IsRecord r
  pub rest : List ℕ
  pub split : bytes ≡ layout r ++ rest

-- the record stands where it says: in the file of its segment, at its offset there
abbrev pub StandsAtPlace : Geometry → Files → Entry → Type 0
StandsAtPlace S files r = StartsWith (drop (r.offset % S.size) (bytes_of files (segment_file S (r.offset / S.size)))) r

-- These records and then one blank fill a segment. Of the blank only its size and its magic count.
pub record EndsInBlank (S : Geometry) (records : List Entry) (bytes : List ℕ) : Type 0 where
  pub rest : List ℕ
  pub split : bytes ≡ layouts records ++ (blank_front (S.size - length (layouts records)) ++ rest)
  pub long : length bytes ≡ S.size

-- the segments before the last, the newest first, each end in a blank
abbrev pub AreEnded : Geometry → List (List Entry) → Files → Type 0
AreEnded S [] files = Unit {0}
AreEnded S (records ∷ older) files =
    ((bytes : List ℕ) × (files (segment_file S (next_segment S older)) ≡ Some bytes) × EndsInBlank S records bytes) × AreEnded S older files

-- with so many new segments behind the last
abbrev pub opened_times : ℕ → Shape → Shape
opened_times zero shape = shape
opened_times (suc n) shape = opened (opened_times n shape)

-- Where recovery looks in the last file, once it has read these records: behind them, or at the file's start where they all
-- stand in files before it. Each file before the last ends in a blank.
pub record LooksAt (S : Geometry) (records : List Entry) (files : Files) (shape : Shape) : Type 0 where
  pub opens : ℕ
  pub is : shape ≡ opened_times opens (shape_of S records)
  pub there : 0 < opens → IsSome (files (last_name S shape))
  pub none : files (segment_file S (suc (next_segment S shape.older))) ≡ None
  pub low : segment_start S shape < 2 ^ 63
  pub older : AreEnded S shape.older files
  pub last : take (used shape) (last_bytes S shape files) ≡ layouts shape.last

-- a record that follows these stands there, and says that this is its place
pub record IsNext (S : Geometry) (records : List Entry) (files : Files) (shape : Shape) (r : Entry) : Type 0 where
  pub starts : StartsWith (drop (used shape) (last_bytes S shape files)) r
  pub follows : Follows S records r
  pub place : r.offset ≡ end_in S shape

-- ---- recovery

-- Recovery keeps these records: it has read them, and in the last file no record that follows stands behind them. There is no
-- file of another name.
pub record Keeps (S : Geometry) (records : List Entry) (files : Files) : Type 0 where
  pub well_formed : IsWellFormed S records
  pub shape : Shape
  pub looks : LooksAt S records files shape
  pub ends : (r : Entry) → IsNext S records files shape r → ⊥
  pub others : NoOther S (next_segment S shape.older) files

-- the first file, in byte order, of the log's folder behind those of the first n segments
pub record ComesNext (S : Geometry) (n : ℕ) (files : Files) (name : List ℕ) : Type 0 where
  pub in_folder : IsLogFile name
  pub there : IsSome (files name)
  pub behind : (k : ℕ) → k < n → name ≢ segment_file S k
  pub first : (other : List ℕ) → IsLogFile other → IsSome (files other) → ((k : ℕ) → k < n → other ≢ segment_file S k)
      → other ≢ name → IsTrue (is_lt (slice_cmp nat_cmp name other))

-- Recovery has read these records, up to here: the files of these segments come first in byte order, and each of them but the
-- last ends in a blank.
pub record ReadsTo (S : Geometry) (records : List Entry) (shape : Shape) (files : Files) : Type 0 where
  pub well_formed : IsWellFormed S records
  pub opens : ℕ
  pub is : shape ≡ opened_times opens (shape_of S records)
  pub named : (k : ℕ) → first_segment S ≤ k → k < next_segment S shape.older → (k * S.size < 2 ^ 63)
      × ComesNext S k files (segment_file S k)
  pub older : AreEnded S shape.older files
  pub last : take (used shape) (last_bytes S shape files) ≡ layouts shape.last

-- the file that comes next is not the next segment's, or the segment would begin at 2^63 or later, where none does
pub record IsMisnamed (S : Geometry) (shape : Shape) (name : List ℕ) : Type 0 where
  pub starts : used shape ≡ 0
  pub other : (name ≢ last_name S shape) ⊎ (2 ^ 63 ≤ segment_start S shape)

-- in a file before the last, neither a record that follows nor a blank to the segment's end stands behind these records
pub record IsBroken (S : Geometry) (records : List Entry) (shape : Shape) (files : Files) (name : List ℕ) : Type 0 where
  pub is : name ≡ last_name S shape
  pub low : segment_start S shape < 2 ^ 63
  pub behind : (other : List ℕ) × ComesNext S (suc (next_segment S shape.older)) files other
  pub ends : (r : Entry) → IsNext S records files shape r → ⊥
  pub full : EndsInBlank S shape.last (last_bytes S shape files) → ⊥

-- the files are damaged at this place, in this file, and in order before it
pub record IsDamagedAt (S : Geometry) (files : Files) (place : ℕ) (name : List ℕ) : Type 0 where
  pub records : List Entry
  pub shape : Shape
  pub reads : ReadsTo S records shape files
  pub next : ComesNext S (next_segment S shape.older) files name
  pub here : place ≡ end_in S shape
  pub fault : IsMisnamed S shape name ⊎ IsBroken S records shape files name

-- ---- crash images

-- A torn record passes by chance nowhere: where recovery has read the log's first records, and a record that follows stands
-- where it looks then, this is the log's next record.
abbrev pub IsHonest : Geometry → List Entry → ℕ → Files → Type 0
IsHonest S log flushed files = (k : ℕ) (shape : Shape) (r : Entry) → flushed ≤ k → k ≤ length log
    → LooksAt S (take k log) files shape → IsNext S (take k log) files shape r → slice_get log k ≡ Some r

-- recovery keeps a prefix of the log, no shorter than the flushed number
pub record KeepsPrefix (S : Geometry) (log : List Entry) (flushed : ℕ) (files : Files) : Type 0 where
  pub number : ℕ
  pub low : flushed ≤ number
  pub high : number ≤ length log
  pub keeps : Keeps S (take number log) files

-- an honest image keeps a prefix of the log
abbrev pub KeepsIfHonest : Geometry → List Entry → ℕ → Files → Type 0
KeepsIfHonest S log flushed files = IsHonest S log flushed files → KeepsPrefix S log flushed files

-- ---- a disk that stores a log

-- The log's files are those of these segments, but for bytes behind the last record. The last file doesn't go past the reach.
pub record Stands (S : Geometry) (shape : Shape) (reach : ℕ) (files : Files) : Type 0 where
  pub older : AreClosed S shape.older files
  pub last : take (used shape) (last_bytes S shape files) ≡ layouts shape.last
  pub short : length (last_bytes S shape files) ≤ reach
  pub others : NoOther S (next_segment S shape.older) files

-- the segments are those of the records, or a next one is opened behind them
abbrev pub IsLaid : Geometry → List Entry → Shape → Type 0
IsLaid S records shape = (shape ≡ shape_of S records) ⊎ (shape ≡ opened (shape_of S records))

-- Every crash image has the first records of the log, so many as are flushed, at their places with their blanks, in these
-- segments, and nothing past this reach of the last file.
pub record StoresAt (S : Geometry) (log : List Entry) (flushed : ℕ) (shape : Shape) (reach : ℕ) (disk : DiskState) : Type 0 where
  pub well_formed : IsWellFormed S log
  pub within : flushed ≤ length log
  pub laid : IsLaid S (take flushed log) shape
  pub each : EachImage (Stands S shape reach) disk

-- the disk stores this log, with so many of its records flushed
pub record StoresLog (S : Geometry) (log : List Entry) (flushed : ℕ) (disk : DiskState) : Type 0 where
  pub shape : Shape
  pub reach : ℕ
  pub at : StoresAt S log flushed shape reach disk

-- Files of the log's own segments are as a crash of this disk might leave them. Others, and those of segments before the base,
-- may be different.
pub record HasLogFilesOf (S : Geometry) (old : DiskState) (files : Files) : Type 0 where
  pub before : Files
  pub image : IsCrashImage old before
  pub same : (name : List ℕ) → Counts S name → files name ≡ before name

-- ---- what is written

-- the batch is the log's records from the flushed number on, all of them in the last of these segments by the blank rule
pub record IsBatch (S : Geometry) (log : List Entry) (flushed count : ℕ) (shape : Shape) (batch : List ℕ) : Type 0 where
  pub within : flushed + count ≤ length log
  pub bytes : batch ≡ layouts (take count (drop flushed log))
  pub rule : shape_of S (take (flushed + count) log) ≡ added shape (take count (drop flushed log))

-- the file and the offset where these segments end
pub record IsAt (S : Geometry) (shape : Shape) (file_base offset : ℕ) : Type 0 where
  pub last : file_base ≡ segment_start S shape
  pub end : offset ≡ used shape

-- the files have the piece behind the records
pub record Has (S : Geometry) (shape : Shape) (reach : ℕ) (piece : List ℕ) (files : Files) : Type 0 where
  pub older : AreClosed S shape.older files
  pub last : take (used shape + length piece) (last_bytes S shape files) ≡ layouts shape.last ++ piece
  pub short : length (last_bytes S shape files) ≤ reach
  pub others : NoOther S (next_segment S shape.older) files
