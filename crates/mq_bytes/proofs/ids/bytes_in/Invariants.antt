use Rattle.std.proofs.Common.{◌≡◌, ◌*◌, length, take, All}
use Rattle.mq_bytes.specs.Hex.{IsHexDigit}
use Rattle.mq_bytes.specs.Ids.{hex_of}
use Rattle.mq_bytes.proofs.ids.bytes_in.Given as goal

abbrev pub invariant-loop-i : goal.invariant-loop-i
invariant-loop-i l = (length l.byte-items ≡ 16) × (hex_of (take l.i l.byte-items) ≡ take (2 * l.i) l.digits) × All IsHexDigit (take (2 * l.i) l.digits)
