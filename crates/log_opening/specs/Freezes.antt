-- Which bytes of the log's files are in pieces.
use Rattle.std.specs.Prelude.{◌≡◌, ◌⊎◌, ℕ, ◌+◌, ◌*◌, ◌/◌, ◌%◌, ◌<◌, ◌≤◌, List, length, take, drop}
use Rattle.mq_outside.specs.Covers.{HasRange, HoldsRange}
use Rattle.mq_outside.specs.Files.{Files, bytes_of}
use Rattle.mq_outside.specs.declared.frozen_ranges.FrozenRanges.{FrozenRanges}
use Rattle.log_model.specs.Bases.{whole}
use Rattle.log_model.specs.Segments.{segment_file}

-- the files have bytes up to this place of the log: those of the segments before it are whole
pub record HasUpTo (segment place : ℕ) (files : Files) : Type 0 where
  pub before : (k : ℕ) → k < place / segment → segment ≤ length (bytes_of files (segment_file (whole segment) k))
  pub last : place % segment ≤ length (bytes_of files (segment_file (whole segment) (place / segment)))

-- the pieces hold what is read of the files in each range of a segment
abbrev pub HoldFiles : ℕ → Files → FrozenRanges → Type 0
HoldFiles segment files stored = (k offset : ℕ) (bytes : List ℕ) → 0 < length bytes → offset + length bytes ≤ segment
    → take (length bytes) (drop offset (bytes_of files (segment_file (whole segment) k))) ≡ bytes
    → HoldsRange stored.pieces.items (k * segment + offset) bytes

-- The pieces have each range of a segment that ends at this place of the log, or before. Where the disk tells what it holds,
-- they hold what is read of the files. Else they may hold nothing.
pub record ArePieces (tells : Type 0) (segment place : ℕ) (files : Files) (stored : FrozenRanges) : Type 0 where
  pub end : stored.end ≤ place
  pub range : (k offset n : ℕ) → 0 < n → offset + n ≤ segment → k * segment + offset + n ≤ place
      → HasRange stored.pieces.items (k * segment + offset) n
  pub held : tells → HoldFiles segment files stored
  pub none : ((place : ℕ) (bytes : List ℕ) → HoldsRange stored.pieces.items place bytes) ⊎ tells
