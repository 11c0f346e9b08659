use Rattle.std.proofs.Common.{◌≡◌, ◌≢◌, ◌<◌, ◌-◌, ⊎_elim, drop, refl, ap, ◌∙◌, subst, sym, length, List, slice_get, Some}
use Rattle.queue_view.specs.Tables.{Table, cut_at}
use Rattle.queue_view.specs.Added.{IsTableOf}
use Rattle.queue_view.proofs.AddedLemmas.{get_set}
use Rattle.queue_view.proofs.NumberedLemmas.{numbered_set}
use Rattle.queue_view.proofs.RemovalLemmas.{cut_table}
use Rattle.queue_view.proofs.view.QueueView.cut.Goals as goal

pub invariant_of-self : goal.invariant_of-self
invariant_of-self c =
    numbered_set c.self.inside.tables.items c.cut_one.new.tables.items c.self.inside.numbers c.args.table c.self.invariant
    (subst (λ (ts : List Table). c.args.table < length ts) (sym c.self.view_is) c.requires.there)
    (λ t at. let changed = c.cut_one.ensures t at in
    (record t { low = c.args.min; units = drop (c.args.min - t.low) t.units; seen = t.seen - (c.args.min - t.low) }, refl, refl, changed))

pub returns-clause-records : goal.returns-clause-records
returns-clause-records c low later added n k t u at is few after min there =
    let tables = c.self.inside.tables.items in
    let here = subst (λ (ts : List Table). slice_get ts c.args.table ≡ Some t) (sym c.self.view_is) at in
    ⊎_elim (λ (same : (c.args.table ≡ c.args.table) × (u ≡ cut_at t c.args.min)).
    subst (λ (x : Table). IsTableOf later (drop k added) (n - k) x) (ap (cut_at t) (sym min) ∙ sym same.1) (cut_table low later added n k t is few after))
    (λ (other : (c.args.table ≢ c.args.table) × (slice_get tables c.args.table ≡ Some u)). absurd (other.0 refl))
    (get_set tables c.args.table c.args.table (cut_at t c.args.min) u
    (subst (λ (ts : List Table). slice_get ts c.args.table ≡ Some u) (c.cut_one.ensures t here) there))
