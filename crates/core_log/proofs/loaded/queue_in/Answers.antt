use Rattle.std.proofs.Common.{rules, ◌≡◌, ◌∙◌, sym, pos, lit<, false}
use Rattle.std.specs.Str.Parse.{digits_value, starts_with_minus}
use Rattle.core_log.proofs.LoadLemmas.{digits_read}
use Rattle.core_log.proofs.loaded.queue_in.Goals as goal

pub returns-in-Some-clause-value : goal.returns-in-Some-clause-value
returns-in-Some-clause-value c =
    let text = c.args.text.now in
    let first = c.starts_with.ensures.byte (lit< tt) (lit< tt) (λ w o h. h) in
    let plain : starts_with_minus text ≡ false = sym first ∙ c.if-starts_with.false in
    let value : c.in-Some.queue ≡ pos (digits_value 10 text) = digits_read text c.in-Some.queue plain (sym c.read_decimal.ensures ∙ c.in-Some.is) in
    search rules
