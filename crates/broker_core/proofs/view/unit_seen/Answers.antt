use Rattle.std.proofs.Common.{◌≡◌, ◌∙◌, refl, ap, sym, arith, rules, None, option_to_list}
use Rattle.pending_log.specs.declared.rows.Row.{Row}
use Rattle.pending_log.proofs.Lists.{get_within, some_one}
use Rattle.broker_core.proofs.QueryLemmas.{view_absent, view_unseen, view_seen}
use Rattle.broker_core.proofs.view.unit_seen.Goals as goal

pub find-requires : goal.find-requires
find-requires c =
    let it = c.requires in
    (it.0.setup.segment, it.0.log, it.1.state.log, it.1.rows)

pub at-requires-clause-within : goal.at-requires-clause-within
at-requires-clause-within c =
    let found = c.in_ok-number.ensures.found in
    let from = found.0 in
    let within = get_within c.args.parts.now.rows.items _ found.1 found.2 in
    omega (arith, from, within)

pub returns-in_err-number : goal.returns-in_err-number
returns-in_err-number c s are =
    let none : c.from_residual.result ≡ None = search rules in
    ap option_to_list none ∙ view_absent c.args.parts.now s c.args.place are (c.in_err-number.ensures.absent refl)

pub returns-then-number-parts : goal.returns-then-number-parts
returns-then-number-parts c s are =
    let found = c.in_ok-number.ensures.found in
    view_unseen c.args.parts.now s c.args.place _ found.1 are found.0 found.2 found.3 c.if-number-parts.true

pub returns : goal.returns
returns c s are =
    let found = c.in_ok-number.ensures.found in
    view_seen c.args.parts.now s c.args.place _ c.at.result c.unit_in.result are found.0 c.at.ensures
    (ap (λ (row : Row). row.place) (some_one (sym c.at.ensures ∙ found.2)) ∙ found.3) c.if-number-parts.false c.unit_in.ensures
