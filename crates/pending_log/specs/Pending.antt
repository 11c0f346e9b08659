-- What is pending of a log, and what a flush turn takes of it.
use Rattle.std.specs.Prelude.{◌≡◌, ◌⊎◌, ℕ, ◌+◌, ◌-◌, ◌≤◌, List, ◌++◌, length, drop, IfSome, IsSome, Option, Some, None}
use Rattle.log_model.specs.declared.batch.Batch.{Batch}
use Rattle.log_model.specs.declared.batch.Receipt.{Receipt}
use Rattle.log_model.specs.Bases.{geometry}
use Rattle.log_model.specs.Batches.{IsBatchOf, IsReceiptFor}
use Rattle.log_model.specs.Numbered.{Log, count_of, place_end, below, records_from}
use Rattle.log_model.specs.Segments.{layouts}
use Rattle.pending_log.specs.declared.pending.Mark.{Mark}
use Rattle.pending_log.specs.declared.turn.Out.{Out}
use Rattle.pending_log.specs.Parts.{PendingPart, IsBounded, turned}
use Rattle.pending_log.specs.Extents.{same_segment}

-- the batch has the longest front of the pending records that lies in one segment
pub record IsNextBatch (segment : ℕ) (log : Log) (flushed : ℕ) (batch : Batch) : Type 0 where
  pub is : IsBatchOf (geometry segment log.base) log.records (flushed - log.base.records) batch
  pub longest : batch.count ≡ length (same_segment segment (records_from log flushed))

-- the turn has a batch of the log, and holds up the records from its first on to some later one
pub record IsOutOf (segment : ℕ) (log : Log) (flushed : ℕ) (out : Out) : Type 0 where
  pub batch : IsBatchOf (geometry segment log.base) log.records (flushed - log.base.records) out.batch
  pub end : out.end ≡ place_end (below log (flushed + out.batch.count))
  pub held : flushed + out.batch.count ≤ out.held
  pub within : out.held ≤ count_of log

-- these are the pending records of a log: their bytes, one after another, and between which places they stand
pub record IsPendingOf (log : Log) (p : PendingPart) : Type 0 where
  pub kept : log.base.records ≤ p.flushed
  pub within : p.flushed ≤ count_of log
  pub count : p.count ≡ count_of log
  pub start : p.start ≡ place_end (below log p.flushed)
  pub end : p.end ≡ place_end log
  pub bytes : p.bytes ≡ layouts (records_from log p.flushed)
  pub out : IfSome p.out (IsOutOf p.segment log p.flushed)

-- the turn comes next: its batch does, and it holds up all that is pending
pub record IsNextTurn (log : Log) (p : PendingPart) (out : Out) : Type 0 where
  pub batch : IsNextBatch p.segment log p.flushed out.batch
  pub is : IsOutOf p.segment log p.flushed out
  pub held : out.held ≡ p.count

-- a turn with this batch was taken, which holds up all that was pending, and nothing else changed
pub record HasTaken (old : PendingPart) (batch : Batch) (new : PendingPart) : Type 0 where
  pub end : ℕ
  pub is : new ≡ turned old (record { batch = batch; held = old.count; end = end })

-- the mark tells how much is pending
pub record IsMarkOf (mark : Mark) (p : PendingPart) : Type 0 where
  pub size : mark.size ≡ length p.bytes
  pub count : mark.count ≡ p.count
  pub end : mark.end ≡ p.end
  pub bounded : IsBounded p

-- records were appended, and nothing else changed
pub record IsGrownFrom (old new : PendingPart) : Type 0 where
  pub more : List ℕ
  pub is : new ≡ record old { count = new.count; end = new.end; bytes = old.bytes ++ more }

-- nothing is pending, or a turn is out
abbrev pub IsIdle : PendingPart → Type 0
IsIdle p = (p.count ≡ p.flushed) ⊎ IsSome p.out

-- the receipt is of the batch that is out
abbrev pub IsReceiptOf : Option Out → Receipt → Type 0
IsReceiptOf None receipt = ⊥
IsReceiptOf (Some out) receipt = IsReceiptFor out.batch receipt

-- with the batch flushed
abbrev pub with_flushed : PendingPart → Option Out → PendingPart
with_flushed p None = p
with_flushed p (Some out) =
    record p { flushed = p.flushed + out.batch.count; start = out.end; bytes = drop (length out.batch.bytes) p.bytes; out = None }

abbrev pub after_flushed : PendingPart → PendingPart
after_flushed p = with_flushed p p.out

-- with the turn failed, and all pending as before it
abbrev pub with_failed : PendingPart → ℕ → Option Out → PendingPart
with_failed p count None = p
with_failed p count (Some out) = record p { failed = Some (record { turn = p.turns; held = out.held; count = count }); out = None }

abbrev pub after_failed : PendingPart → ℕ → PendingPart
after_failed p count = with_failed p count p.out
