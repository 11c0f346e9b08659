use Rattle.std.proofs.Common.{◌∙◌, ◌+◌, ℕ, nat_le, filter, ap, subst, sym}
use Rattle.std.specs.List.{position_or_len}
use Rattle.half_view.specs.declared.row.HalfRow.{HalfRow}
use Rattle.half_view.specs.Halves.{HalfTable}
use Rattle.half_view.specs.OfLog.{AreHalvesOf}
use Rattle.half_view.specs.Rooms.{table_of}
use Rattle.half_view.proofs.CutLemmas.{cut_follows}
use Rattle.half_view.proofs.DueLemmas.{places_rise}
use Rattle.half_view.proofs.view.HalfView.cut.Goals as goal

pub returns-clause-records : goal.returns-clause-records
returns-clause-records c segment n log later well are cut at =
    let t : HalfTable = table_of c.self.inside.low c.self.inside.halves c.self.inside.times in
    let before : AreHalvesOf log t = subst (λ (x : HalfTable). AreHalvesOf log x) (sym c.self.view_is) are in
    let rise = places_rise segment log t well before in
    let left = cut_follows segment n log later well cut t 0 before in
    let rows = c.self.inside.halves.items in
    record {
      low = ap (λ (m : ℕ). c.self.inside.low + m)
          (c.first_from-count.ensures.first rise ∙ ap (λ (p : ℕ). position_or_len (λ (row : HalfRow). nat_le p row.place) rows) at) ∙ left.low;
      halves = c.drop_front.ensures.items ∙ c.first_from-count.ensures.rest rise
          ∙ ap (λ (p : ℕ). filter (λ (row : HalfRow). nat_le p row.place) rows) at ∙ left.halves;
    }
