use Rattle.std.proofs.Common.{Some, sym, ap, ◌∙◌, arith}
use Rattle.record_codec.proofs.WholeLemmas.{not_placed, placed, found_none, size_within}
use Rattle.record_codec.proofs.whole.size_at.Goals as goal

pub returns-then-not-may_stand-clause-size : goal.returns-then-not-may_stand-clause-size
returns-then-not-may_stand-clause-size c = sym (not_placed c.args.bytes.now _ (λ r h. sym (c.may_stand.ensures r h) ∙ c.if-not-may_stand.true))

pub returns-in_err-view-clause-size : goal.returns-in_err-view-clause-size
returns-in_err-view-clause-size c = c.from_residual.ensures ∙ sym (found_none c.args.bytes.now _ (sym c.in_err-view.ensures.exact))

pub returns-clause-size : goal.returns-clause-size
returns-clause-size c =
    let h = sym c.in_ok-view.ensures.exact in
    ap Some c.size.ensures ∙ sym (placed c.args.bytes.now _ c.in_ok-view.view h (sym (c.may_stand.ensures _ h) ∙ c.if-not-may_stand.false))

pub returns-clause-within : goal.returns-clause-within
returns-clause-within c =
    let h = sym c.in_ok-view.ensures.exact in
    (omega (arith, c.size.ensures), omega (arith, c.size.ensures, size_within c.args.bytes.now c.in_ok-view.view (λ i. omega (arith, c.type_inv.bytes i)) h))
