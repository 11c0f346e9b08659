-- The tokens so far are reported.
use Rattle.std.proofs.Common.{◌≡◌, take}
use Rattle.mq_peers.specs.Reports.{events_of}
use Rattle.mq_peers.proofs.mem_ready.report.Given as goal

abbrev pub invariant-loop-token : goal.invariant-loop-token
invariant-loop-token l = l.out.items ≡ events_of (take l.token-index l.tokens)
