use Rattle.std.proofs.Common.{length, take, ◌+◌, ◌-◌, ◌%◌, ◌≡◌, ◌≤◌}
use Rattle.mq_bytes.specs.Crc.{crc_from}
use Rattle.mq_bytes.specs.Tables.{after}
use Rattle.mq_bytes.proofs.WordLemmas.{braided}
use Rattle.mq_bytes.proofs.crc.take_blocks.Given as goal

abbrev pub invariant-loop-at : goal.invariant-loop-at
invariant-loop-at l = record {
  within : l.at + 16 ≤ length l.bytes;
  whole : l.at % 16 ≡ 0;
  said : after 16 (crc_from l.fn.register (take l.at l.bytes)) ≡ braided l.a l.b l.c l.d;
}

abbrev pub decreases-loop-at : goal.decreases-loop-at
decreases-loop-at l = length l.bytes - l.at
