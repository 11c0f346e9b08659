use Rattle.std.proofs.Common.{lit<, sym, ◌∙◌}
use Rattle.std.proofs.lemmas.Bool.{eqb-true, eqb-false}
use Rattle.mq_bytes.proofs.DecimalLaws.{decimal_value-parsed, decimal_value-plus}
use Rattle.mq_bytes.proofs.decimal.read_decimal.Goals as goal

pub returns-then-starts_with : goal.returns-then-starts_with
returns-then-starts_with c =
    let first = c.starts_with.ensures.byte (lit< tt) (lit< tt) (λ w o h. h) in
    sym (decimal_value-plus c.args.text.now (eqb-true _ _ (sym first ∙ c.if-starts_with.true)))

pub returns : goal.returns
returns c =
    let first = c.starts_with.ensures.byte (lit< tt) (lit< tt) (λ w o h. h) in
    c.ok.ensures.value ∙ decimal_value-parsed c.args.text.now c.parse.result (eqb-false _ _ (sym first ∙ c.if-starts_with.false)) c.parse.ensures.value.0
