use Rattle.std.proofs.Common.{take, ◌≡◌}
use Rattle.mq_bytes.specs.Crc.{crc_from}
use Rattle.mq_bytes.proofs.crc.take_each.Given as goal

abbrev pub invariant-loop-byte : goal.invariant-loop-byte
invariant-loop-byte l = l.register ≡ crc_from l.fn.register (take l.byte-index l.bytes)
