-- The hash of a key goes on from that of its topic and `#`.
use Rattle.std.proofs.Common.{◌≡◌, ℕ, zero, suc, List, [], ◌∷◌, ◌++◌, ap, ◌∙◌, arith, append_assoc}
use Rattle.std.specs.Str.{IsAscii, IsUtf8}
use Rattle.std.proofs.lemmas.Str.{IsUtf8-append, IsUtf8-from_ascii}
use Rattle.mq_bytes.specs.Hashes.{key_hash}
use Rattle.log_model.specs.Keys.{hash_of}

-- `#` is a text
sign : IsAscii (35 ∷ [])
sign zero = omega arith
sign (suc i) = omega arith

-- with `#` behind it a text is one
pub with_sign : (topic : List ℕ) → IsUtf8 topic → IsUtf8 (topic ++ 35 ∷ [])
with_sign topic utf8 = IsUtf8-append topic (35 ∷ []) utf8 (IsUtf8-from_ascii (35 ∷ []) sign)

-- a key behind its topic and `#`
pub behind_sign : (topic key : List ℕ) (hash : ℕ) → hash ≡ key_hash ((topic ++ 35 ∷ []) ++ key) → hash ≡ hash_of topic key
behind_sign topic key hash is = is ∙ ap key_hash (append_assoc topic (35 ∷ []) key)
