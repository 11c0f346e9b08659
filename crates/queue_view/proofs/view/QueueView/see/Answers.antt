use Rattle.std.proofs.Common.{◌≡◌, ◌<◌, ◌+◌, refl, subst, sym, length, List, slice_get, Some}
use Rattle.queue_view.specs.Tables.{Table, with_next_seen}
use Rattle.queue_view.specs.Added.{AreTablesOf}
use Rattle.queue_view.proofs.NumberedLemmas.{numbered_set}
use Rattle.queue_view.proofs.AddedLemmas.{with_seen}
use Rattle.queue_view.proofs.view.QueueView.see.Goals as goal

pub invariant_of-self : goal.invariant_of-self
invariant_of-self c =
    numbered_set c.self.inside.tables.items c.see_one.new.tables.items c.self.inside.numbers c.args.table c.self.invariant
    (subst (λ (ts : List Table). c.args.table < length ts) (sym c.self.view_is) c.requires.there)
    (λ t at. let changed = c.see_one.ensures t at in
    (record t { seen = t.seen + 1 }, refl, refl, changed))

pub returns-clause-records : goal.returns-clause-records
returns-clause-records c low added n a t are next at of =
    let before = subst (λ (ts : List Table). AreTablesOf low added n ts) (sym c.self.view_is) are in
    let here = subst (λ (ts : List Table). slice_get ts c.args.table ≡ Some t) (sym c.self.view_is) at in
    with_seen low added n c.self.inside.tables.items c.see_one.new.tables.items c.args.table t (with_next_seen t) a
    before next here of.topic of.queue refl refl refl refl refl (c.see_one.ensures t here)
