use Rattle.std.proofs.Common.{◌≡◌, [], length}
use Rattle.remoting_frame.specs.Head.{IsInOrder}
use Rattle.remoting_frame.proofs.BinaryReading.{with_pairs}
use Rattle.remoting_frame.proofs.binary_reader.put_pairs.Given as goal

abbrev pub invariant-loop-rest : goal.invariant-loop-rest
invariant-loop-rest l = record { so_far : with_pairs l.pairs l.rest ≡ with_pairs [] l.bytes; ordered : IsInOrder l.pairs }

abbrev pub decreases-loop-rest : goal.decreases-loop-rest
decreases-loop-rest l = length l.rest
