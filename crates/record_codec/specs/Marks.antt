-- Marks of names in words of 64 bits, by sums of the names: three bits of one of 4,096 words for each name.
use Rattle.std.specs.Prelude.{ℕ, ◌^◌, ◌/◌, ◌%◌, ◌==◌, ◌&&◌, List, [], ◌∷◌, Bool, true, bit_and, bit_or, slice_index, slice_set}
use Rattle.mq_bytes.specs.Crc.{crc_of}

-- the word of a sum
abbrev pub word_of : ℕ → ℕ
word_of sum = sum % 4096

-- the bits that it has there
unfoldable pub bits_of : ℕ → ℕ
bits_of sum = bit_or (bit_or (2 ^ (sum / 4096 % 64)) (2 ^ (sum / 262144 % 64))) (2 ^ (sum / 16777216 % 64))

-- the bits are set
abbrev pub is_marked : List ℕ → ℕ → Bool
is_marked words sum = bit_and (slice_index words (word_of sum)) (bits_of sum) == bits_of sum

-- with the bits set
abbrev pub marked : List ℕ → ℕ → List ℕ
marked words sum = slice_set words (word_of sum) (bit_or (slice_index words (word_of sum)) (bits_of sum))

-- the bits of each pair's name are set
abbrev pub are_marked : List ℕ → List (List ℕ × List ℕ) → Bool
are_marked words [] = true
are_marked words (p ∷ ps) = is_marked words (crc_of p.0) && are_marked words ps
