use Rattle.std.proofs.Common.{codes, refl, ◌∙◌, sym, subst, List, ℕ, ap, arith}
use Rattle.std.specs.Prelude.{IsTrue, Result, Ok, Err, OnOk}
use Rattle.record_codec.specs.Props.{is_pair, with_prop}
use Rattle.log_model.specs.Drafts.{delivery_text}
use Rattle.record_copies.proofs.Pairs.{dash_pair, put_last}
use Rattle.record_copies.proofs.made.put_delivery.Goals as goal

pub put-requires : goal.put-requires
put-requires c =
    subst (λ (t : List ℕ). IsTrue (is_pair (codes "DELAY_FROM", t))) (sym (c.as_str.ensures.value ∙ c.in_ok-text.ensures))
    (dash_pair (codes "DELAY_FROM") c.args.level c.args.count refl (omega (arith, c.ranges.level.fits)) (omega (arith, c.ranges.count.fits)))

on_ok : {A E : Type 0} (r : Result A E) (P Q : Type 0) → (P → Q) → OnOk r P → OnOk r Q
on_ok (Ok x) P Q follows h = follows h
on_ok (Err e) P Q follows h = tt

pub returns : goal.returns
returns c =
    on_ok c.put.result _ _
    (λ h. h ∙ ap (λ (t : List ℕ). with_prop (codes "DELAY_FROM") t c.args.props.now) (c.as_str.ensures.value ∙ c.in_ok-text.ensures)
    ∙ put_last (codes "DELAY_FROM") (delivery_text c.args.level c.args.count) c.args.props.now c.requires)
    c.put.ensures.ok
