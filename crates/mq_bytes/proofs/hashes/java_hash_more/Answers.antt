use Rattle.std.proofs.Common.{◌≡◌, ℕ, ◌%◌, ◌^◌, FitsSigned, rules, ap, ◌∙◌}
use Rattle.std.proofs.lemmas.Int.{to_z-of_z}
use Rattle.std.specs.Int.{w32, cast_signed, cast_unsigned}
use Rattle.std.specs.Int.Digits.{number_from_digits_after}
use Rattle.mq_bytes.specs.Hashes.{utf16_units, java_hash}
use Rattle.mq_bytes.proofs.HashLemmas.{text_on}
use Rattle.mq_bytes.proofs.hashes.java_hash_more.Goals as goal

pub returns : goal.returns
unfolding java_hash
returns c before utf8 is =
    let fits : FitsSigned w32 c.cast_signed.result = search rules in
    let given : FitsSigned w32 c.args.hash = search rules in
    let start : c.cast_unsigned.result ≡ cast_unsigned w32 c.args.hash = c.cast_unsigned.ensures ∙ ap (cast_unsigned w32) (to_z-of_z w32 c.args.hash given) in
    let low = c.after_text.ensures ∙ ap (λ (n : ℕ). number_from_digits_after 31 n (utf16_units c.args.text.now) % 2 ^ 32) start in
    to_z-of_z w32 c.cast_signed.result fits ∙ c.cast_signed.ensures
    ∙ ap (cast_signed w32) (low ∙ text_on before c.args.text.now c.args.hash utf8 is)
