-- What moves a checksum over the bytes that follow.
use Rattle.std.specs.Prelude.{ℕ}
use Rattle.mq_bytes.specs.Tables.{after}

-- the register of which only the highest bit is set, n bytes of 0 on
abbrev pub shift_of : ℕ → ℕ
shift_of n = after n 0x8000_0000
