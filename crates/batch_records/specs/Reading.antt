-- The messages that a body is, read from the left by places.
use Rattle.std.specs.Prelude.{ℕ, zero, suc, ◌+◌, ◌==◌, ◌||◌, List, [], ◌∷◌, nat_lt}
use Rattle.std.specs.Prelude.{length, take, drop, Option, Some, None, if◌then◌else◌, option_map, option_and_then}
use Rattle.std.specs.Int.{Width, w16, w32, byte_len, from_be_bytes, cast_signed}
use Rattle.std.specs.Str.{is_utf8}
use Rattle.batch_records.specs.declared.message.Message.{Message}

infixl 10 ◌>>=◌
abbrev pub ◌>>=◌ : {A B : Type 0} → Option A → (A → Option B) → Option B
o >>= f = option_and_then f o

-- the number at a place
abbrev pub number_at : Width → ℕ → List ℕ → ℕ
number_at w at bytes = from_be_bytes w (take (byte_len w) (drop at bytes))

-- the text that the bytes are
unfoldable pub text_of : List ℕ → Option (List ℕ)
text_of bytes = if is_utf8 bytes then Some bytes else None

-- how long the body and the properties are, where they fill a message of this size
unfoldable pub props_len_of : ℕ → ℕ → ℕ → Option (ℕ × ℕ)
props_len_of size body props = if 22 + body + props == size then Some (body, props) else None

unfoldable pub body_len_of : List ℕ → ℕ → ℕ → Option (ℕ × ℕ)
body_len_of bytes size body = if nat_lt (length bytes) size || nat_lt size (22 + body) then None else props_len_of size body (number_at w16 (20 + body) bytes)

-- how long the body and the properties of the first message are, if it is whole and they agree with its size
unfoldable pub lengths_of : List ℕ → Option (ℕ × ℕ)
lengths_of bytes = if nat_lt (length bytes) 22 then None else body_len_of bytes (number_at w32 0 bytes) (number_at w32 16 bytes)

-- the first message, whose body and properties are so long, if these are a text
abbrev pub message_of : List ℕ → ℕ → ℕ → Option Message
message_of bytes body props =
    option_map (λ text. record { flag = cast_signed w32 (number_at w32 12 bytes); body = take body (drop 20 bytes); props = text }) (text_of (take props (drop (22 + body) bytes)))

-- the first message, and the bytes behind it
unfoldable pub first_message : List ℕ → Option (Message × List ℕ)
first_message bytes = do
  lengths ← lengths_of bytes
  message ← message_of bytes lengths.0 lengths.1
  Some (message, drop (22 + lengths.0 + lengths.1) bytes)

-- the messages that the bytes are, of which there are at most n
abbrev pub messages_within : ℕ → List ℕ → Option (List Message)
messages_within n [] = Some []
messages_within zero (b ∷ bytes) = None
messages_within (suc n) (b ∷ bytes) = first_message (b ∷ bytes) >>= λ first. option_map (λ others. first.0 ∷ others) (messages_within n first.1)

-- the messages that a body is, all of it
abbrev pub messages_in : List ℕ → Option (List Message)
messages_in body = messages_within (length body) body
