-- What contracts see of the messages that wait.
use Rattle.std.specs.Prelude.{ℕ, List, [], ◌∷◌, ◌++◌, drop}
use Rattle.record_codec.specs.Entry.{Entry}

-- the messages of a level that are to be delivered, and for how many more there is room
pub record Line : Type 0 where
  pub messages : List Entry
  pub spare : ℕ

-- the line with this much room
abbrev pub with_room : Line → ℕ → Line
with_room l spare = record { messages = l.messages; spare = spare }

-- with one message more, and then this much room
abbrev pub with_message : Line → Entry → ℕ → Line
with_message l r spare = record { messages = l.messages ++ r ∷ []; spare = spare }

-- without the first message
abbrev pub without_first : Line → ℕ → Line
without_first l spare = record { messages = drop 1 l.messages; spare = spare }
