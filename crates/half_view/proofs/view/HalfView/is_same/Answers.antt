use Rattle.std.proofs.Common.{◌≡◌, ◌∙◌, ap, sym, subst, rules, true}
use Rattle.std.proofs.lemmas.Bool.{and_parts, eqb-true}
use Rattle.std.specs.Bool.{Decides}
use Rattle.std.proofs.lemmas.Slice.Eq.{slice_eq-Decides}
use Rattle.half_view.specs.Halves.{HalfTable}
use Rattle.half_view.specs.contracts.row.HalfRowPartialEq.TheImpl.{eq-value}
use Rattle.half_view.specs.declared.row.HalfRow.{HalfRow}
use Rattle.log_model.specs.contracts.origin.OriginStatePartialEq.TheImpl as state
use Rattle.log_model.specs.declared.origin.OriginState.{OriginState}
use Rattle.log_model.specs.declared.origin.OriginState.TheVariants.{Open, Committed, RolledBack, Discarded}
use Rattle.half_view.proofs.view.HalfView.is_same.Goals as goal

states_decide : (a b : OriginState) → Decides (state.eq-value.it a b) (a ≡ b)
states_decide Open b = search rules
states_decide Committed b = search rules
states_decide RolledBack b = search rules
states_decide Discarded b = search rules

-- rows whose parts are the same are the same
same_row : (a b : HalfRow) → a.place ≡ b.place → a.names ≡ b.names → a.due ≡ b.due → a.last ≡ b.last → a.settled ≡ b.settled
    → a.checks ≡ b.checks → a.state ≡ b.state → a ≡ b
same_row a b place names due last settled checks state = search rules

-- half messages that the test of their parts takes for the same are the same
rows_decide : (a b : HalfRow) → Decides (eq-value.it a b) (a ≡ b)
rows_decide a b = (
  λ is.
      let place = and_parts _ _ is in
      let names = and_parts _ _ place.1 in
      let due = and_parts _ _ names.1 in
      let last = and_parts _ _ due.1 in
      let settled = and_parts _ _ last.1 in
      let checks = and_parts _ _ settled.1 in
      same_row a b (eqb-true _ _ place.0) (eqb-true _ _ names.0) (eqb-true _ _ due.0) (eqb-true _ _ last.0) (eqb-true _ _ settled.0)
      (eqb-true _ _ checks.0) ((states_decide a.state b.state).0 checks.1),
  λ same. subst (λ (row : HalfRow). eq-value.it a row ≡ true) same (itself a),
) where
  itself : (row : HalfRow) → eq-value.it row row ≡ true
  itself row = search (rules, states_decide)

pub returns-then-self-other : goal.returns-then-self-other
returns-then-self-other c =
    let rows : c.as_slice.result.now ≡ c.args.self.now.halves = c.as_slice.ensures.value ∙ ap (λ (t : HalfTable). t.halves) c.self.view_is in
    let others : c.as_slice-then-self-other.result.now ≡ c.args.other.now.halves = c.as_slice-then-self-other.ensures.value ∙ ap (λ (t : HalfTable). t.halves) c.other.view_is in
    let low : c.args.self.now.low ≡ c.args.other.now.low = sym (ap (λ (t : HalfTable). t.low) c.self.view_is) ∙ c.if-self-other.true ∙ ap (λ (t : HalfTable). t.low) c.other.view_is in
    let tells = slice_eq-Decides rows_decide c.as_slice.result.now c.as_slice-then-self-other.result.now c.eq.result c.eq.ensures in (
      λ same. (low, sym rows ∙ tells.0 same ∙ others),
      λ both. tells.1 (rows ∙ both.1 ∙ sym others),
    )
