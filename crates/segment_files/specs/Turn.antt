-- What a flush turn starts from, what it is given, and what it leaves.
use Rattle.std.specs.Prelude.{◌≡◌, ◌≢◌, ◌⊎◌, ℕ, ◌+◌, ◌-◌, ◌*◌, ◌/◌, ◌%◌, ◌^◌, ◌<◌, ◌≤◌, ◌++◌, max, min, replicate, nat_le, List}
use Rattle.std.specs.Prelude.{take, length, slice_get, Option, Some, None, Bool, true, false, Result, IfOk, IfSome, OnOk, OnErr}
use Rattle.std.specs.Prelude.{if◌then◌else◌}
use Rattle.mq_bytes.specs.Names.{log_file}
use Rattle.mq_outside.specs.Files.{bytes_of, overwritten}
use Rattle.mq_outside.specs.Disk.{DiskState, EachImage}
use Rattle.record_codec.specs.Entry.{Entry}
use Rattle.record_codec.specs.Blanks.{blank_front}
use Rattle.log_model.specs.Bases.{Geometry}
use Rattle.log_model.specs.Batches.{IsBatchOf}
use Rattle.log_model.specs.Log.{IsWellFormed, end_of}
use Rattle.log_model.specs.Segments.{Shape, opened, used, segment_start, end_in, shape_of, last_name, AreSegmentFiles}
use Rattle.log_model.specs.Store.{StoresAt, IsAt, IsBatch}
use Rattle.log_model.specs.Stored.{Stored, KeepsAtLeast, flushed_of, with_flushed, with_more}
use Rattle.log_model.specs.declared.batch.Batch.{Batch}
use Rattle.log_model.specs.declared.batch.Receipt.{Receipt}
use Rattle.segment_files.specs.declared.last_file.LastFile.{LastFile}

-- ---- where the next bytes go

-- the offset is not past the end of the file that begins at this base, as it is read
abbrev pub IsInside : ℕ → ℕ → DiskState → Type 0
IsInside file_base offset disk = offset ≤ length (bytes_of disk.reads (log_file file_base))

-- The disk stores the log with so many of its records flushed, in these segments. The next bytes go behind them, and nothing
-- was ever written past the reach, nor past the segment's end.
pub record WritesAt (it : Stored) (shape : Shape) (reach file_base offset : ℕ) (disk : DiskState) : Type 0 where
  pub stores : StoresAt it.geometry it.log it.flushed shape reach disk
  pub place : IsAt it.geometry shape file_base offset
  pub low : reach ≤ it.geometry.size

-- the first bytes of a blank: its size, its magic, and zeros up to here
abbrev pub blank_to : ℕ → ℕ → List ℕ
blank_to size done = blank_front size ++ replicate (done - 8) 0

-- this offset of the last file is not before the end of its records
pub record IsBehind (S : Geometry) (shape : Shape) (name : List ℕ) (offset : ℕ) : Type 0 where
  pub some : 0 < S.size
  pub low : segment_start S shape < 2 ^ 64
  pub named : name ≡ last_name S shape
  pub behind : used shape ≤ offset

-- ---- zeros ahead

-- so many zeros were written at this offset of the file; a fresh range that ended there is fresh together with them
pub record HasZeros (name : List ℕ) (at n : ℕ) (old new : DiskState) : Type 0 where
  pub bytes : bytes_of new.reads name ≡ overwritten at (replicate n 0) (bytes_of old.reads name)
  pub fresh : (from before : ℕ) → from + before ≡ at → old.fresh name from before → new.fresh name from (before + n)

-- The batch ends at this offset. Zeros are written behind it up to here at most: so many bytes, and in a file that has any written
-- ahead not past the end of a segment.
abbrev pub zeros_to : LastFile → ℕ → ℕ
zeros_to file end = max end (min (end + 2 ^ 18) file.ahead)

-- how many zeros may stand behind a batch
abbrev pub zeros_behind : LastFile → ℕ
zeros_behind file = min (2 ^ 18) file.ahead

-- ---- what is to be written

-- A blank is due where it lies in the file that is written now. One before it stands already.
abbrev pub is_due : ℕ → Option (ℕ × ℕ) → Bool
is_due file_base None = false
is_due file_base (Some blank) = nat_le file_base blank.0

-- the segments behind a blank if one is due
abbrev pub shape_behind : Bool → Shape → Shape
shape_behind due shape = if due then opened shape else shape

-- the reach of the last file, or an offset in it, behind a blank if one is due: a new file has 0
abbrev pub unless_opened : Bool → ℕ → ℕ
unless_opened due n = if due then 0 else n

-- the base of the file, where a batch that opens a new one begins at this place
abbrev pub base_behind : Bool → ℕ → ℕ → ℕ
base_behind due place file_base = if due then place else file_base

-- how many syncs a turn makes
abbrev pub syncs_of : Bool → ℕ
syncs_of due = if due then 2 else 1

-- the blank fills the last segment behind the flushed records, and the batch begins the next one
pub record Opens (S : Geometry) (log : List Entry) (flushed : ℕ) (shape : Shape) (place : ℕ) (blank : Option (ℕ × ℕ)) : Type 0 where
  pub is : shape ≡ shape_of S (take flushed log)
  pub filled : blank ≡ Some (end_in S shape, S.size - used shape)
  pub begins : place ≡ segment_start S (opened shape)

-- The batch goes on behind the flushed records: in the last of these segments, or in a new one where a blank is due.
pub record GoesOn (S : Geometry) (log : List Entry) (flushed : ℕ) (shape : Shape) (due : Bool) (batch : Batch) : Type 0 where
  pub records : IsBatch S log flushed batch.count (shape_behind due shape) batch.bytes
  pub opens : due ≡ true → Opens S log flushed shape batch.place batch.blank

-- ---- one turn

-- a log that is open for batches: its last file, and its disk
pub record Growing : Type 1 where
  pub file : LastFile
  pub disk : DiskState

abbrev pub growing : LastFile → DiskState → Growing
growing file disk = record { file = file; disk = disk }

-- the batch opens a new segment, whose blank isn't written yet
abbrev pub opens_segment : LastFile → Batch → Bool
opens_segment file batch = is_due file.base batch.blank

-- the next record of the log opens a new segment: it doesn't stand where the flushed records end
pub record NextOpens (it : Stored) : Type 0 where
  pub next : Entry
  pub is : slice_get it.log it.flushed ≡ Some next
  pub apart : next.offset ≢ end_of it.geometry.base (flushed_of it)

-- These are the segments of the flushed records, or a new one is opened behind them, which the next record begins.
abbrev pub IsLaidFor : Stored → Shape → Type 0
IsLaidFor it shape = (shape ≡ shape_of it.geometry (flushed_of it)) ⊎ ((shape ≡ opened (shape_of it.geometry (flushed_of it)))
    × NextOpens it)

-- The log is open for batches: the disk stores it, and the next bytes go behind its flushed records, or to a new segment that the
-- next record opens. At most so many bytes stand behind the place of the next record. No zeros are written past a segment's end.
pub record IsReady (it : Stored) (behind : ℕ) (at : Growing) : Type 0 where
  pub shape : Shape
  pub reach : ℕ
  pub writes : WritesAt it shape reach at.file.base at.file.offset at.disk
  pub laid : IsLaidFor it shape
  pub ahead : at.file.ahead ≤ it.geometry.size
  pub short : (reach ≤ at.file.offset + behind) ⊎ ((shape ≡ shape_of it.geometry (flushed_of it)) × NextOpens it)

-- a turn can be made: the log is open for batches, and this one has its records from the flushed number on
pub record CanTurn (it : Stored) (behind : ℕ) (batch : Batch) (at : Growing) : Type 0 where
  pub ready : IsReady it behind at
  pub next : IsBatchOf it.geometry it.log it.flushed batch

-- What a turn did. At each moment of it a crash leaves the records that were flushed before, and behind them arbitrary bytes.
-- After a fault a turn can be made with each batch that comes next in this log, or in it with more appended. After Ok the batch
-- is flushed. Where no zeros are written ahead, and nothing longer stood behind the records, every crash leaves exactly the log's
-- files then.
pub record HasTurned {E : Type 0} (it : Stored) (behind : ℕ) (batch : Batch) (result : Result Receipt E) (old new : Growing) : Type 0 where
  pub any_moment : KeepsAtLeast it.geometry (flushed_of it) (λ m. it.flushed) old.disk new.disk
  pub fault : OnErr result ((more : List Entry) (next : Batch) → IsWellFormed it.geometry (it.log ++ more)
      → IsBatchOf it.geometry (it.log ++ more) it.flushed next
      → CanTurn (with_more more it) (max behind (length batch.bytes + zeros_behind old.file)) next new)
  pub flushed : OnOk result (IsReady (with_flushed batch.count it) (max (behind - length batch.bytes) (zeros_behind old.file)) new)
  pub exact : old.file.ahead ≡ 0 → behind ≤ length batch.bytes
      → OnOk result (EachImage (AreSegmentFiles it.geometry (flushed_of (with_flushed batch.count it))) new.disk)
  pub ahead : new.file.ahead ≡ old.file.ahead

-- ---- where the next bytes go, whatever the disk tells

-- they go where the flushed records end
pub record GoesToEnd (it : Stored) (file : LastFile) : Type 0 where
  pub base : file.base ≡ end_of it.geometry.base (flushed_of it) / it.geometry.size * it.geometry.size
  pub offset : file.offset ≡ end_of it.geometry.base (flushed_of it) % it.geometry.size

-- they go to the start of the next segment, which the next record opens
pub record GoesToNext (it : Stored) (file : LastFile) : Type 0 where
  pub opens : NextOpens it
  pub base : file.base ≡ (end_of it.geometry.base (flushed_of it) / it.geometry.size + 1) * it.geometry.size
  pub offset : file.offset ≡ 0

-- one of both
abbrev pub IsPlaced : Stored → LastFile → Type 0
IsPlaced it file = GoesToEnd it file ⊎ GoesToNext it file

-- after Ok they go to the end of the batch, and after a fault to where the log's next record can go
pub record PlacesOn {E : Type 0} (it : Stored) (batch : Batch) (result : Result Receipt E) (new : LastFile) : Type 0 where
  pub ok : OnOk result (GoesToEnd (with_flushed batch.count it) new)
  pub err : OnErr result (IsPlaced it new)

-- the receipt is of this batch, which was written up to where the next bytes go
pub record IsReceipt (tells : Type 0) (batch : Batch) (file : LastFile) (receipt : Receipt) : Type 0 where
  pub from : receipt.from ≡ batch.from
  pub count : receipt.count ≡ batch.count
  pub base : receipt.piece.base ≡ file.base
  pub ends : receipt.piece.from + length batch.bytes ≡ file.offset
  pub long : receipt.piece.len ≡ length batch.bytes
  pub held : tells → receipt.piece.held ≡ Some batch.bytes
  pub no_others : IfSome receipt.piece.held (λ held. held ≡ batch.bytes)

-- a turn writes the batch from its place on: behind the blank into a new file if one is due, or on in the last file
pub record GoesToPlace (file : LastFile) (batch : Batch) : Type 0 where
  pub place : base_behind (opens_segment file batch) batch.place file.base
      + unless_opened (opens_segment file batch) file.offset ≡ batch.place
  pub room : file.offset + length batch.bytes < 2 ^ 63

-- the file and the offset behind the blank, if one is due
pub record IsOpened (batch : Batch) (old new : LastFile) : Type 0 where
  pub base : new.base ≡ base_behind (opens_segment old batch) batch.place old.base
  pub offset : new.offset ≡ unless_opened (opens_segment old batch) old.offset

-- Where the next bytes go, whatever the log is: behind the batch, or after a fault where they went, or behind the blank.
pub record MovesOn {E : Type 0} (tells : Type 0) (batch : Batch) (result : Result Receipt E) (old new : LastFile) : Type 0 where
  pub receipt : IfOk result (IsReceipt tells batch new)
  pub base : OnOk result (new.base ≡ base_behind (opens_segment old batch) batch.place old.base)
  pub offset : OnOk result (new.offset ≡ unless_opened (opens_segment old batch) old.offset + length batch.bytes)
  pub back : OnErr result (new.offset ≤ old.offset)
  pub fault : OnErr result (((new.base ≡ old.base) × (new.offset ≡ old.offset)) ⊎ IsOpened batch old new)
