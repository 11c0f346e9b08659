use Rattle.std.proofs.Common.{◌≡◌, ◌*◌, length, take}
use Rattle.mq_bytes.specs.Ids.{hex_of}
use Rattle.mq_bytes.proofs.ids.digits_of.Given as goal

abbrev pub invariant-loop-i : goal.invariant-loop-i
invariant-loop-i l = (length l.digits ≡ 32) × (take (2 * l.i) l.digits ≡ hex_of (take l.i l.bytes))
