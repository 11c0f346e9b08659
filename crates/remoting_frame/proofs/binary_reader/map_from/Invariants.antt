use Rattle.std.proofs.Common.{◌≡◌, [], length}
use Rattle.remoting_frame.specs.NameMaps.{pairs_view}
use Rattle.remoting_frame.proofs.BinaryReading.{with_pairs}
use Rattle.remoting_frame.proofs.binary_reader.map_from.Given as goal

abbrev pub invariant-loop-rest : goal.invariant-loop-rest
invariant-loop-rest l = with_pairs (pairs_view l.map.entries) l.rest ≡ with_pairs [] l.bytes

abbrev pub decreases-loop-rest : goal.decreases-loop-rest
decreases-loop-rest l = length l.rest
