-- A decimal text that ends where a word ends is read as a number.
use Rattle.std.proofs.Common.{◌≡◌, ℕ, ◌-◌, ◌+◌, ◌<◌, ◌≤◌, ◌^◌, true, List, [], ◌∷◌, ◌++◌, length, take, drop, get_or, ℤ, pos, negsuc, FitsSigned, sym, ap, ◌∙◌, arith}
use Rattle.std.specs.Int.{w32}
use Rattle.std.specs.Int.Signed.{mag}
use Rattle.std.proofs.lemmas.Int.{ints}
use Rattle.std.proofs.lemmas.List.{take-append-drop, drop-drop, drop_more, get_or_past}
use Rattle.json.specs.Lex.{lex, between, token}
use Rattle.json.specs.Token.{number}
use Rattle.json.specs.Word.{ends_word}
use Rattle.json.proofs.Printed.Numbers.{lex-number}
use Rattle.json.proofs.Printed.Decimals.{IsNumber-signed_decimal}
use Rattle.mq_bytes.specs.Decimal.{decimal}

short : (z : ℤ) → FitsSigned w32 z → mag z < 2 ^ 63
short (pos n) f = omega (arith, ints, f)
short (negsuc n) f = omega (arith, ints, f)

-- what stands at a place, with a byte that ends a word
word_ends : (text : List ℕ) (at : ℕ) → at < length text → ends_word (get_or text at 0 ∷ []) ≡ true → ends_word (drop at text) ≡ true
word_ends text at lt e = ap ends_word (drop_more text at 0 lt) ∙ e

-- no byte past the end ends a word
within : (text : List ℕ) (at : ℕ) → at ≤ length text → ends_word (get_or text at 0 ∷ []) ≡ true → at < length text
within text at le e =
    let past : length text ≤ at → ⊥ = λ h. absurd (cc (ap (λ b. ends_word (b ∷ [])) (get_or_past text at 0 h))) in
    omega (arith, past)

pub number_stands : (text piece : List ℕ) (z : ℤ) (from end : ℕ) → from ≤ end → end ≤ length text → FitsSigned w32 z → piece ≡ take (end - from) (drop from text) → piece ≡ decimal z
    → ends_word (get_or text end 0 ∷ []) ≡ true → lex between (drop from text) ≡ token (number (decimal z)) ∷ lex between (drop end text)
number_stands text piece z from end order le fits cut is ends =
    let n = end - from in
    let sum : from + n ≡ end = omega arith in
    let rest : drop n (drop from text) ≡ drop end text = drop-drop n from text ∙ ap (λ i. drop i text) sum in
    let front : take n (drop from text) ≡ decimal z = sym cut ∙ is in
    let parts : drop from text ≡ decimal z ++ drop end text = sym (take-append-drop n (drop from text)) ∙ cc in
    ap (lex between) parts ∙ lex-number (decimal z) (drop end text) (IsNumber-signed_decimal z (short z fits)) (word_ends text end (within text end le ends) ends)
