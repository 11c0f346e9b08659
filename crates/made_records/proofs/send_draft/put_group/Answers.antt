use Rattle.std.proofs.Common.{◌≡◌, ◌∙◌, codes, refl, sym, ap, subst, List, ℕ, true, false}
use Rattle.std.specs.Prelude.{is_some, OnOk}
use Rattle.made_records.proofs.PairLemmas.{group_pair, named_has, with_own, mapped_some}
use Rattle.made_records.proofs.send_draft.put_group.Goals as goal

pub returns-then-is_some : goal.returns-then-is_some
returns-then-is_some c =
    sym (with_own c.args.group.now c.args.props.now true
    (sym (named_has (codes "PGROUP") c.args.props.now) ∙ ap is_some (sym c.get.ensures) ∙ mapped_some _ c.get.result ∙ sym c.is_some.ensures ∙ c.if-is_some.true))

pub put-requires : goal.put-requires
put-requires c = group_pair (codes "PGROUP") c.args.group.now refl c.requires

pub returns : goal.returns
returns c =
    subst (λ (props : List (List ℕ × List ℕ)). OnOk c.put.result (c.put.new.self ≡ props)) (sym (with_own c.args.group.now c.args.props.now false
    (sym (named_has (codes "PGROUP") c.args.props.now) ∙ ap is_some (sym c.get.ensures) ∙ mapped_some _ c.get.result ∙ sym c.is_some.ensures ∙ c.if-is_some.false)))
    c.put.ensures.ok
