-- The blank that fills the end of a segment.
use Rattle.std.specs.Prelude.{ℕ, ◌==◌, ◌++◌, List, length, nat_lt, Option, Some, None, if◌then◌else◌}
use Rattle.std.specs.Int.{w32, to_be_bytes}
use Rattle.record_codec.specs.Parsed.{n32}

-- the number behind the size
abbrev pub blank_magic : ℕ
blank_magic = 0xCBD4_3194

-- the first eight bytes of a blank of this size
abbrev pub blank_front : ℕ → List ℕ
blank_front size = to_be_bytes w32 size ++ to_be_bytes w32 blank_magic

-- the size of the blank at the front of these bytes
unfoldable pub blank_size : List ℕ → Option ℕ
blank_size bytes = if nat_lt (length bytes) 8 then None else (if n32 bytes 4 == blank_magic then Some (n32 bytes 0) else None)
