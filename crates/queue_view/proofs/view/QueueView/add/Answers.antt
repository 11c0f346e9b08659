use Rattle.std.proofs.Common.{◌≡◌, ◌<◌, ◌++◌, ◌∷◌, [], refl, subst, sym, length, List, slice_get, Some}
use Rattle.queue_view.specs.Tables.{Table, with_unit}
use Rattle.queue_view.specs.Added.{AreTablesOf, added_to}
use Rattle.queue_view.proofs.NumberedLemmas.{numbered_set}
use Rattle.queue_view.proofs.AddedLemmas.{with_added}
use Rattle.queue_view.proofs.view.QueueView.add.Goals as goal

pub invariant_of-self : goal.invariant_of-self
invariant_of-self c =
    numbered_set c.self.inside.tables.items c.add_unit.new.tables.items c.self.inside.numbers c.args.table c.self.invariant
    (subst (λ (ts : List Table). c.args.table < length ts) (sym c.self.view_is) c.requires.there)
    (λ t at. let changed = c.add_unit.ensures t at in
    (record t { units = t.units ++ record { unit = c.args.unit; store = c.args.store } ∷ []; spare = changed.0 }, refl, refl, changed.2))

pub returns-clause-records : goal.returns-clause-records
returns-clause-records c low added n t are within at =
    let before = subst (λ (ts : List Table). AreTablesOf low added n ts) (sym c.self.view_is) are in
    let here = subst (λ (ts : List Table). slice_get ts c.args.table ≡ Some t) (sym c.self.view_is) at in
    let changed = c.add_unit.ensures t here in
    with_added low added n c.self.inside.tables.items c.add_unit.new.tables.items c.args.table t (with_unit t c.args.unit c.args.store changed.0) (added_to t c.args.unit c.args.store)
    before within here refl refl refl refl refl refl refl changed.2
