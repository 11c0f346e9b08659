use Rattle.mq_outside.specs.MemSource.{HasNoEmptyPiece}
use Rattle.serve_run_tests.proofs.links.pieces_of.Given as goal

abbrev pub invariant-loop-byte : goal.invariant-loop-byte
invariant-loop-byte l = HasNoEmptyPiece l.pieces.items
