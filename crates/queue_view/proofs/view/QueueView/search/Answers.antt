use Rattle.std.proofs.Common.{◌≡◌, ◌∙◌, subst, sym, ap, ℤ, rules, slice_get, Some, List}
use Rattle.std.proofs.lemmas.Int.{to_z-of_z}
use Rattle.std.proofs.lemmas.Option.{get_or_from_slice_get}
use Rattle.std.specs.Int.{w64}
use Rattle.queue_view.specs.Tables.{Table}
use Rattle.queue_view.specs.Searches.{first_from}
use Rattle.queue_view.proofs.AddedLemmas.{search_among}
use Rattle.queue_view.proofs.view.QueueView.search.Goals as goal

pub returns-clause-records : goal.returns-clause-records
returns-clause-records c low added n t are at =
    let here = subst (λ (ts : List Table). slice_get ts c.args.table ≡ Some t) (sym c.self.view_is) at in
    let same = c.index.ensures ∙ get_or_from_slice_get c.self.inside.tables.items c.args.table t c.index.result.now here in
    c.search.ensures
    ∙ ap (λ (z : ℤ). first_from z c.index.result.now) (to_z-of_z w64 c.args.time (search rules))
    ∙ ap (λ (u : Table). first_from c.args.time u) same
    ∙ search_among low added n c.args.self.now c.args.table t c.args.time are at
