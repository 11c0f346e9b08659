-- The bytes of a message's body, wherever they are.
use Rattle.std.specs.Prelude.{ℕ, List}
use Rattle.record_codec.specs.declared.body.Held.{Held}
use Rattle.record_codec.specs.declared.body.Held.TheVariants.{Own, Shared}

-- the bytes
abbrev pub bytes_of : Held → List ℕ
bytes_of (Own bytes) = bytes.items
bytes_of (Shared bytes) = bytes
