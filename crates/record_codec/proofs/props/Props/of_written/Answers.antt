use Rattle.std.proofs.Common.{◌≡◌, ◌++◌, ◌∷◌, [], ℕ, List, sym, ap, subst, ◌∙◌}
use Rattle.record_codec.proofs.PropsLemmas.{IsTaken, nothing_taken, taken_next, taken_all}
use Rattle.record_codec.proofs.props.Props.of_written.Goals as goal

pub loop-name-init : goal.loop-name-init
loop-name-init c = nothing_taken c.args.text.now _ c.new-pairs.ensures.items c.requires

pub text_of-requires : goal.text_of-requires
text_of-requires c = (taken_next _ _ _ _ (c.in-Some.name.now, c.in-Some.value.now, c.in-Some.after.now) (sym c.in-Some.ensures) c.loop-name.invariant.1).name

pub text_of-requires-in-Some : goal.text_of-requires-in-Some
text_of-requires-in-Some c = (taken_next _ _ _ _ (c.in-Some.name.now, c.in-Some.value.now, c.in-Some.after.now) (sym c.in-Some.ensures) c.loop-name.invariant.1).value

pub loop-name-smaller : goal.loop-name-smaller
loop-name-smaller c = (taken_next _ _ _ _ (c.in-Some.name.now, c.in-Some.value.now, c.in-Some.after.now) (sym c.in-Some.ensures) c.loop-name.invariant.1).smaller

pub loop-name-preserved : goal.loop-name-preserved
loop-name-preserved c =
    let n = taken_next _ _ _ _ (c.in-Some.name.now, c.in-Some.value.now, c.in-Some.after.now) (sym c.in-Some.ensures) c.loop-name.invariant.1 in
    let pair : (c.in_ok-text_of.field-0, c.in_ok-text_of-2.field-0) ≡ (c.in-Some.name.now, c.in-Some.value.now) =
    ap (λ (w : List ℕ). (w, c.in_ok-text_of-2.field-0)) c.in_ok-text_of.ensures ∙ ap (λ (w : List ℕ). (c.in-Some.name.now, w)) c.in_ok-text_of-2.ensures in
    let items = c.in_ok-push.ensures.items ∙ ap (λ (p : List ℕ × List ℕ). c.loop-name.pairs.items ++ p ∷ []) pair in
    (n.left, subst (λ (w : List (List ℕ × List ℕ)). IsTaken c.args.text.now c.in-Some.after.now w n.left) (sym items) n.is)

pub invariant_of-result : goal.invariant_of-result
invariant_of-result c = (taken_all _ _ _ _ (sym c.in_default.ensures) c.loop-name.invariant.1).1

pub returns : goal.returns
returns c = (taken_all _ _ _ _ (sym c.in_default.ensures) c.loop-name.invariant.1).0
