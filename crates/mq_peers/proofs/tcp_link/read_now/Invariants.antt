-- An interrupted read takes nothing.
use Rattle.std.proofs.Common.{◌≡◌, length}
use Rattle.std.specs.Io.KnownBytes.{Keeps}
use Rattle.mq_peers.proofs.tcp_link.read_now.Given as goal

abbrev pub invariant-loop : goal.invariant-loop
invariant-loop g l = (length l.out ≡ length l.initial.out) × Keeps (g.R.Read.remaining l.initial.stream) (g.R.Read.remaining l.stream)
