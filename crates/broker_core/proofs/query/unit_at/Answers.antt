use Rattle.std.proofs.Common.{refl, sym, ◌∙◌, ap}
use Rattle.pending_log.specs.declared.rows.Row.{Row}
use Rattle.pending_log.proofs.Lists.{some_one}
use Rattle.broker_core.proofs.QueryLemmas.{has_row, unit_is}
use Rattle.broker_core.proofs.query.unit_at.Goals as goal

pub find-requires : goal.find-requires
find-requires c =
    let it = c.requires in
    (it.0.setup.segment, it.0.log, it.2.state.log, it.2.rows)

pub unreachable-requires : goal.unreachable-requires
unreachable-requires c =
    let it = c.requires in
    absurd (has_row c.args.parts.now it.0 it.1 c.args.place it.2 it.3 it.4 (c.in-None.ensures.absent refl))

pub returns : goal.returns
returns c s r are there is =
    let found = c.in-Some.ensures.found in
    let same = some_one (sym c.at.ensures ∙ found.2) in
    unit_is c.args.parts.now s r _ c.at.result _ are there c.at.ensures (ap (λ (x : Row). x.place) same ∙ found.3 ∙ sym is) c.unit_in.ensures
