use Rattle.std.proofs.Common.{◌≡◌, ◌+◌, drop}
use Rattle.remoting_frame.specs.Head.{pairs_size}
use Rattle.remoting_frame.proofs.binary_writer.size_of.Given as goal

abbrev pub invariant-loop-index : goal.invariant-loop-index
invariant-loop-index l = l.size + pairs_size (drop l.index l.pairs) ≡ pairs_size l.pairs
