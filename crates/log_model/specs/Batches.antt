-- What a flush turn is given: records of the log that lie in one segment, and the blank before them.
use Rattle.std.specs.Prelude.{◌≡◌, ℕ, ◌+◌, ◌-◌, ◌/◌, ◌<◌, ◌≤◌, ◌==◌, List, take, drop, length}
use Rattle.std.specs.Prelude.{slice_get, Option, Some, None, IfSome, if◌then◌else◌}
use Rattle.record_codec.specs.Entry.{Entry}
use Rattle.log_model.specs.declared.batch.Batch.{Batch}
use Rattle.log_model.specs.declared.batch.Receipt.{Receipt}
use Rattle.log_model.specs.Bases.{Geometry}
use Rattle.log_model.specs.Log.{end_of}
use Rattle.log_model.specs.Segments.{layouts}

-- the place and the size of the blank between the end of the records and the next place: none where they meet
abbrev pub blank_between : ℕ → ℕ → Option (ℕ × ℕ)
blank_between end place = if end == place then None else Some (end, place - end)

-- the batch has records from the flushed number on, each in the segment of the first, and the blank before them
pub record IsBatchOf (S : Geometry) (log : List Entry) (flushed : ℕ) (batch : Batch) : Type 0 where
  pub from : batch.from ≡ S.base.records + flushed
  pub some : 0 < batch.count
  pub within : flushed + batch.count ≤ length log
  pub place : (first : Entry) → slice_get log flushed ≡ Some first → batch.place ≡ first.offset
  pub segment : (i : ℕ) (r : Entry) → i < batch.count → slice_get log (flushed + i) ≡ Some r → r.offset / S.size ≡ batch.place / S.size
  pub bytes : batch.bytes ≡ layouts (take batch.count (drop flushed log))
  pub blank : batch.blank ≡ blank_between (end_of S.base (take flushed log)) batch.place

-- the receipt is of the batch: of its records, which stand in its piece, and where the piece holds bytes they are the batch's
pub record IsReceiptFor (batch : Batch) (receipt : Receipt) : Type 0 where
  pub from : receipt.from ≡ batch.from
  pub count : receipt.count ≡ batch.count
  pub place : receipt.piece.base + receipt.piece.from ≡ batch.place
  pub size : receipt.piece.len ≡ length batch.bytes
  pub held : IfSome receipt.piece.held (λ bytes. bytes ≡ batch.bytes)
