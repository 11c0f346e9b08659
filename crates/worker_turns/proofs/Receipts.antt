-- The receipt of a turn is of its batch.
use Rattle.std.proofs.Common.{arith}
use Rattle.std.specs.Prelude.{Ok}
use Rattle.log_model.specs.Batches.{IsReceiptFor}
use Rattle.log_model.specs.declared.batch.Batch.{Batch}
use Rattle.log_model.specs.declared.batch.Receipt.{Receipt}
use Rattle.group_flush.specs.declared.flusher.FlushFault.{FlushFault}
use Rattle.segment_files.specs.Turn.{MovesOn, GoesToPlace}
use Rattle.segment_files.specs.declared.last_file.LastFile.{LastFile}

-- a batch that was written from its place on stands there
pub receipt_for : {tells : Type 0} (batch : Batch) (receipt : Receipt) (old new : LastFile) → MovesOn {E = FlushFault} tells batch (Ok receipt) old new → GoesToPlace old batch → IsReceiptFor batch receipt
receipt_for batch receipt old new moves goes = record {
  from = moves.receipt.from;
  count = moves.receipt.count;
  place = omega (arith, moves.receipt.base, moves.receipt.ends, moves.base, moves.offset, goes.place);
  size = moves.receipt.long;
  held = moves.receipt.no_others;
}
