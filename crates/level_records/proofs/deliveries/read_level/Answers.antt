use Rattle.std.proofs.Common.{rules, ◌≡◌, ◌∙◌, ap, sym, pos, Some, to_z, of_z, w64}
use lib.IntN.{nat_abs}
use Rattle.mq_bytes.specs.Decimal.{digits_of}
use Rattle.level_records.proofs.DigitLemmas.{level_text}
use Rattle.level_records.proofs.deliveries.read_level.Goals as goal

pub returns-in-Some-clause-written : goal.returns-in-Some-clause-written
returns-in-Some-clause-written c is =
    let level = level_text c.args.text.now is in
    let high = level.high in
    let same : Some c.in-Some.level ≡ Some (pos level.level) = sym c.in-Some.is ∙ c.read_decimal.ensures ∙ level.read in
    let value : c.in-Some.level ≡ pos level.level = cc same in
    let number : level.level ≡ nat_abs (to_z w64 (of_z w64 c.in-Some.level)) = search rules in
    level.written ∙ ap digits_of number
