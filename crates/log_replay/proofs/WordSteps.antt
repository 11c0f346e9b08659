-- The first word of what is left of a text.
use Rattle.std.proofs.Common.{◌≡◌, ◌∙◌, ℕ, ◌<◌, List, [], ◌∷◌, length, arith}
use Rattle.std.specs.Prelude.{nat_lt}
use Rattle.std.proofs.lemmas.Bool.{cond-true, lt-ltb}
use Rattle.log_replay.proofs.WordLemmas.{IsFirst, words_in}

pub a_word : (text rest piece after : List ℕ) → words_in text ≡ words_in rest → IsFirst rest piece after → 0 < length piece → words_in text ≡ piece ∷ words_in after
a_word text rest piece after same first some =
    same ∙ first.words ∙ cond-true (nat_lt 0 (length piece)) (piece ∷ words_in after) (words_in after) (lt-ltb 0 (length piece) some)

pub no_word : (text rest piece after : List ℕ) → words_in text ≡ words_in rest → IsFirst rest piece after → length piece ≡ 0 → words_in text ≡ words_in after
no_word text rest [] after same first none = same ∙ first.words
no_word text rest (b ∷ piece) after same first none = absurd (omega (arith, none))
