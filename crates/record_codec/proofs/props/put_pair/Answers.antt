use Rattle.std.proofs.Common.{◌++◌, ◌∷◌, [], ℕ, List, set, sym, ap, ◌∙◌, arith}
use Rattle.record_codec.proofs.PutLemmas.{place_below, set_at_place, at_end}
use Rattle.record_codec.proofs.props.put_pair.Goals as goal

pub index_mut-pair-requires : goal.index_mut-pair-requires
index_mut-pair-requires c = omega (arith, place_below c.args.name.now c.args.pairs.now.items c.in-Some.at (sym c.requires.at ∙ c.in-Some.is))

pub returns-in-Some-clause-ok : goal.returns-in-Some-clause-ok
returns-in-Some-clause-ok c =
    let items = c.args.pairs.now.items in
    let there = c.index_mut-pair.result.now in
    let place = sym c.requires.at ∙ c.in-Some.is in
    ap (λ (v : List ℕ). set items c.in-Some.at (there.0, v)) c.in_ok-value.ensures ∙ ap (λ (q : List ℕ × List ℕ). set items c.in-Some.at (q.0, c.args.value.now)) c.index_mut-pair.ensures.value
    ∙ set_at_place c.args.name.now c.args.value.now items c.in-Some.at there place

pub returns-in_ok-push-in-None-clause-ok : goal.returns-in_ok-push-in-None-clause-ok
returns-in_ok-push-in-None-clause-ok c =
    let items = c.args.pairs.now.items in
    let none = sym c.requires.at ∙ c.in-None.is in
    let pair = ap (λ (w : List ℕ). (w, c.in_ok-value.value)) c.in_ok-name-in-None.ensures ∙ ap (λ (w : List ℕ). (c.args.name.now, w)) c.in_ok-value.ensures in
    c.in_ok-push-in-None.ensures.items ∙ ap (λ (p : List ℕ × List ℕ). items ++ p ∷ []) pair ∙ at_end c.args.name.now c.args.value.now items none
