-- The segment files of a log: where its records lie, and the blank that fills each segment but the last.
use Rattle.std.specs.Prelude.{◌≡◌, ◌≢◌, ℕ, suc, ◌+◌, ◌-◌, ◌*◌, ◌<◌, ◌≤◌, replicate, List, []}
use Rattle.std.specs.Prelude.{◌∷◌, ◌++◌, length, take, codes, Some, None, if◌then◌else◌}
use Rattle.std.specs.List.{flat_map}
use Rattle.mq_bytes.specs.Names.{log_file}
use Rattle.mq_outside.specs.Files.{Files, bytes_of}
use Rattle.record_codec.specs.Entry.{Entry}
use Rattle.record_codec.specs.Layout.{layout, size}
use Rattle.record_codec.specs.Blanks.{blank_front}
use Rattle.log_model.specs.Bases.{Geometry, first_segment}
use Rattle.log_model.specs.Log.{fits}

-- the bytes of these records, one after another
abbrev pub layouts : List Entry → List ℕ
layouts = flat_map layout

-- a blank of n bytes: its size, its magic, and zeros
abbrev pub blank_of : ℕ → List ℕ
blank_of n = blank_front n ++ replicate (n - 8) 0

-- the records of each segment: of those before the last, the newest segment first, and of the last
pub record Shape : Type 0 where
  pub older : List (List Entry)
  pub last : List Entry

-- no records, and the first segment
abbrev pub empty_shape : Shape
empty_shape = record { older = []; last = [] }

-- more records in the last segment
abbrev pub added : Shape → List Entry → Shape
added shape records = record { older = shape.older; last = shape.last ++ records }

-- a new segment behind the last
abbrev pub opened : Shape → Shape
opened shape = record { older = shape.last ∷ shape.older; last = [] }

-- how many bytes the records of the last segment take
abbrev pub used : Shape → ℕ
used shape = length (layouts shape.last)

-- with one record more, in the last segment where it fits there, else in a new one
abbrev pub grown : Geometry → Shape → Entry → Shape
grown S shape r = if fits S.size (used shape) (size r) then added shape (r ∷ []) else added (opened shape) (r ∷ [])

-- with more records, one after another
abbrev pub laid : Geometry → Shape → List Entry → Shape
laid S shape [] = shape
laid S shape (r ∷ records) = laid S (grown S shape r) records

-- the segments of a log
abbrev pub shape_of : Geometry → List Entry → Shape
shape_of S log = laid S empty_shape log

-- the number of the segment behind these: the first one's where there are none
abbrev pub next_segment : Geometry → List (List Entry) → ℕ
next_segment S [] = first_segment S
next_segment S (records ∷ older) = suc (next_segment S older)

-- where the last segment begins, and where its records end
abbrev pub segment_start : Geometry → Shape → ℕ
segment_start S shape = next_segment S shape.older * S.size

abbrev pub end_in : Geometry → Shape → ℕ
end_in S shape = segment_start S shape + used shape

-- the path of the file of segment k, whose name is the place where the segment begins
abbrev pub segment_file : Geometry → ℕ → List ℕ
segment_file S k = log_file (k * S.size)

-- the path and the bytes of the last segment's file
abbrev pub last_name : Geometry → Shape → List ℕ
last_name S shape = segment_file S (next_segment S shape.older)

abbrev pub last_bytes : Geometry → Shape → Files → List ℕ
last_bytes S shape files = bytes_of files (last_name S shape)

-- a segment behind which another stands: its records, and a blank to its end
abbrev pub closed : Geometry → List Entry → List ℕ
closed S records = layouts records ++ blank_of (S.size - length (layouts records))

-- the segments before the last, the newest first, stand whole with their blanks
abbrev pub AreClosed : Geometry → List (List Entry) → Files → Type 0
AreClosed S [] files = Unit {0}
AreClosed S (records ∷ older) files = (files (segment_file S (next_segment S older)) ≡ Some (closed S records)) × AreClosed S older files

-- a path in the folder of the log
abbrev pub IsLogFile : List ℕ → Type 0
IsLogFile name = take 10 name ≡ codes "commitlog/"

-- a path in the folder of the log that isn't of a segment before the base
pub record Counts (S : Geometry) (name : List ℕ) : Type 0 where
  pub in_folder : IsLogFile name
  pub kept : (k : ℕ) → k < first_segment S → name ≢ segment_file S k

-- the folder of the log has no file but those of segments 0 to n; the files of segments before the base may be there or not
abbrev pub NoOther : Geometry → ℕ → Files → Type 0
NoOther S n files = (name : List ℕ) → IsLogFile name → ((k : ℕ) → k ≤ n → name ≢ segment_file S k) → files name ≡ None

-- the log's files are exactly those of these segments; the first file may be absent while it has no bytes
pub record AreFilesOf (S : Geometry) (shape : Shape) (files : Files) : Type 0 where
  pub older : AreClosed S shape.older files
  pub last : last_bytes S shape files ≡ layouts shape.last
  pub others : NoOther S (next_segment S shape.older) files

-- the segment files of a log: its records at their places, and a blank to the end of each file but the last
abbrev pub AreSegmentFiles : Geometry → List Entry → Files → Type 0
AreSegmentFiles S log files = AreFilesOf S (shape_of S log) files
