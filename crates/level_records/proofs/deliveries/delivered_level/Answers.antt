use Rattle.std.proofs.Common.{◌≡◌, ◌∙◌, ap, sym, subst, ℕ, List, Option, Some, codes}
use Rattle.std.specs.Prelude.{IfSome}
use Rattle.record_codec.specs.Props.{value_of}
use Rattle.log_model.specs.Admissible.{IsDelayFrom}
use Rattle.log_model.specs.Kinds.{level_part, delay_level, before_dash}
use Rattle.mq_bytes.specs.Decimal.{digits_of}
use Rattle.level_records.proofs.LoadLemmas.{if_copy, match_other}
use Rattle.level_records.proofs.deliveries.delivered_level.Goals as goal

pub returns-clause-copy : goal.returns-clause-copy
returns-clause-copy c marked plain =
    let r = c.args.view.now in
    let text = c.in_ok-prop.field-0.now in
    let at : value_of (codes "DELAY_FROM") r.props ≡ Some text = sym c.in_ok-prop.ensures in
    if_copy r c.level_before_dash.result plain c.level_before_dash.ensures.within
    (match_other c.level_before_dash.result (λ level. before_dash text ≡ Some (digits_of level)) (λ level. delay_level r ≡ Some (digits_of level))
    (λ level named. ap level_part at ∙ named) (c.level_before_dash.ensures.written (subst (λ (o : Option (List ℕ)). IfSome o IsDelayFrom) at marked)))
