-- What is left of a record's keys.
use Rattle.std.specs.Prelude.{◌≡◌, ℕ, ℤ, ◌++◌, List, [], ◌∷◌, map, Option, Some, option_to_list, codes}
use Rattle.std.specs.Str.{IsUtf8}
use Rattle.mq_bytes.specs.Hashes.{java_hash}
use Rattle.record_codec.specs.Props.{value_of}
use Rattle.log_model.specs.Keys.{hash_of, words}

-- the hashes of the keys that these properties give a record of this topic
abbrev pub keys_in : List ℕ → List (List ℕ × List ℕ) → List ℕ
keys_in topic props =
    map (hash_of topic) (option_to_list (value_of (codes "UNIQ_KEY") props) ++ words (value_of (codes "KEYS") props))

-- the hashes of this key, if it is left, and of the words of this text
abbrev pub hashes_left : List ℕ → Option (List ℕ) → List ℕ → List ℕ
hashes_left topic unique rest = map (hash_of topic) (option_to_list unique ++ words (Some rest))

-- the texts are of characters, and the start is the hash of the topic and `#`
pub record IsReading (topic : List ℕ) (start : ℤ) (rest : List ℕ) : Type 0 where
  pub begins : start ≡ java_hash (topic ++ 35 ∷ [])
  pub utf8 : IsUtf8 rest
