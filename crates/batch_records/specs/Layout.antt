-- When a body is messages, said of its bytes as a whole.
use Rattle.std.specs.Prelude.{◌≡◌, ℕ, ◌+◌, ◌^◌, ◌<◌, ◌++◌, List, [], ◌∷◌, length, FitsSigned}
use Rattle.std.specs.Int.{w16, w32, to_be_bytes, cast_unsigned}
use Rattle.std.specs.Str.{IsUtf8}
use Rattle.batch_records.specs.declared.message.Message.{Message}

-- how many bytes a message has
abbrev pub size_of : Message → ℕ
size_of m = 22 + length m.body + length m.props

-- The bytes are a message and then the rest: its size, two words of any bytes, its flag, its body and its properties, each of
-- these two behind its length.
pub record IsMessage (bytes : List ℕ) (m : Message) (rest : List ℕ) : Type 0 where
  pub words : List ℕ
  pub spelled : bytes ≡ to_be_bytes w32 (size_of m) ++ words ++ to_be_bytes w32 (cast_unsigned w32 m.flag)
      ++ to_be_bytes w32 (length m.body) ++ m.body ++ to_be_bytes w16 (length m.props) ++ m.props ++ rest
  pub two_words : length words ≡ 8
  pub flag : FitsSigned w32 m.flag
  pub size : size_of m < 2 ^ 32
  pub props : length m.props < 2 ^ 16
  pub text : IsUtf8 m.props

-- the bytes are these messages, one after another, and nothing else
abbrev pub AreMessages : List ℕ → List Message → Type 0
AreMessages bytes [] = bytes ≡ []
AreMessages bytes (m ∷ messages) = (rest : List ℕ) × IsMessage bytes m rest × AreMessages rest messages
