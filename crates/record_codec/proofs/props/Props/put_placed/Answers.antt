use Rattle.std.proofs.Common.{◌≡◌, ℕ, List, length, arith, sym, ap, subst, ◌∙◌}
use Rattle.std.proofs.lemmas.Result.{on_ok_weaker}
use Rattle.record_codec.specs.LaxProps.{ArePlacesIn}
use Rattle.record_codec.proofs.PutLemmas.{still_placed, newly_placed}
use Rattle.record_codec.proofs.props.Props.put_placed.Goals as goal

pub returns-in-Some-clause-places : goal.returns-in-Some-clause-places
returns-in-Some-clause-places c =
    let place = sym (c.get.ensures.value ∙ c.requires.placed c.args.name.now) ∙ sym c.copied.ensures ∙ c.in-Some.is in
    let placed = still_placed c.args.name.now c.args.value.now c.args.self.now c.args.places.now c.in-Some.at c.requires.placed place in
    on_ok_weaker c.put_at.result (λ same. subst (λ (ps : List (List ℕ × List ℕ)). ArePlacesIn ps c.args.places.now) (sym same) placed) c.put_at.ensures.ok

pub returns-in_ok-insert-in-None-clause-places : goal.returns-in_ok-insert-in-None-clause-places
returns-in_ok-insert-in-None-clause-places c =
    let none = sym (c.get.ensures.value ∙ c.requires.placed c.args.name.now) ∙ sym c.copied.ensures ∙ c.in-None.is in
    let last : c.len.result ≡ length c.args.self.now = omega (arith, c.len.ensures, ap (λ (ps : List (List ℕ × List ℕ)). length ps) c.self.view_is) in
    let placed = newly_placed c.args.name.now c.args.value.now c.args.self.now c.args.places.now c.insert.new.self _ c.in_ok-insert-in-None.ensures.updates last c.requires.placed none in
    on_ok_weaker c.put_at-in-None.result (λ same. subst (λ (ps : List (List ℕ × List ℕ)). ArePlacesIn ps c.insert.new.self) (sym same) placed) c.put_at-in-None.ensures.ok
