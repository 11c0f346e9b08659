use Rattle.std.proofs.Common.{◌≡◌, ◌∙◌, ◌-◌, ℕ, List, length, drop, take, ap, subst, sym, arith}
use Rattle.std.specs.Str.{IsUtf8}
use Rattle.std.proofs.lemmas.List.{take_all, length-drop}
use Rattle.mq_bytes.specs.Decimal.{decimal_value}
use Rattle.mq_bytes.specs.Names.{twenty_digits}
use Rattle.log_recovery.specs.Names.{not_negative}
use Rattle.log_recovery.proofs.Digits.{digits_write, name_digits, digits_text}
use Rattle.log_recovery.proofs.names.number_in.Goals as goal

pub returns-in-Ok : goal.returns-in-Ok
returns-in-Ok c n low is =
    let bytes : List ℕ = c.as_bytes.result.now in
    let there : take (length bytes - 10) (drop 10 bytes) ≡ twenty_digits n =
    take_all (length bytes - 10) (drop 10 bytes) (omega (arith, length-drop 10 bytes)) ∙ ap (drop 10) (c.as_bytes.ensures.value ∙ is) ∙ name_digits n in
    c.unless_negative.ensures ∙ ap not_negative (c.read_decimal.ensures ∙ ap decimal_value (c.in-Ok.ensures.cases.0 ∙ there) ∙ digits_write n low)

pub returns-in-Err : goal.returns-in-Err
returns-in-Err c n low is =
    let bytes : List ℕ = c.as_bytes.result.now in
    let there : take (length bytes - 10) (drop 10 bytes) ≡ twenty_digits n =
    take_all (length bytes - 10) (drop 10 bytes) (omega (arith, length-drop 10 bytes)) ∙ ap (drop 10) (c.as_bytes.ensures.value ∙ is) ∙ name_digits n in
    absurd (c.in-Err.ensures.cases.0 (subst IsUtf8 (sym there) (digits_text n)))
