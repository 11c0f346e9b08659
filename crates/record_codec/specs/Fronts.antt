-- What the first eight bytes of a record say.
use Rattle.std.specs.Prelude.{ℕ, ◌==◌, List, length, nat_lt, Option, Some, None, if◌then◌else◌}
use Rattle.record_codec.specs.Layout.{magic}
use Rattle.record_codec.specs.Parsed.{n32}

-- the size that bytes say which begin as a record does: their first number, with the magic behind it
unfoldable pub front_size : List ℕ → Option ℕ
front_size bytes = if nat_lt (length bytes) 8 then None else (if n32 bytes 4 == magic then Some (n32 bytes 0) else None)
