-- The words of a text, one after the other.
use Rattle.std.specs.Prelude.{ℕ, List, [], unwrap_or}
use Rattle.record_codec.specs.Props.{until}

-- what stands before the first space and what behind it, or the whole text
abbrev pub first_word : List ℕ → List ℕ × List ℕ
first_word text = unwrap_or (until 32 text) (text, [])
