-- An interrupted write leaves nothing.
use Rattle.std.specs.Io.KnownBytes.{Keeps}
use Rattle.mq_peers.proofs.tcp_link.write_now.Given as goal

abbrev pub invariant-loop : goal.invariant-loop
invariant-loop g l = Keeps (g.W.Write.contents l.initial.stream) (g.W.Write.contents l.stream)
