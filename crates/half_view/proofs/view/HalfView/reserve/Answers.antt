use Rattle.std.proofs.Common.{List, sym, subst}
use Rattle.half_view.specs.declared.row.HalfRow.{HalfRow}
use Rattle.half_view.specs.declared.view.HalfView.TheInside.{Inside}
use Rattle.half_view.specs.Due.{AreTimed}
use Rattle.half_view.proofs.TimedLemmas.{grown_timed}
use Rattle.half_view.proofs.view.HalfView.reserve.Goals.{then-count-len+in_ok-grow, else-count-len}
use Rattle.half_view.proofs.view.HalfView.reserve.Goals as goal

pub invariant_of-self-2 : goal.invariant_of-self-2
invariant_of-self-2 c =
    let is = c.self.invariant in
    subst (λ (rs : List HalfRow). AreTimed c.if-count-len.self-inside.low rs c.if-count-len.self-inside.times) (sym c.reserve.ensures.items)
    (elim c.if-count-len.branch [
      | then-count-len+in_ok-grow w ↦ subst (λ (s : Inside). AreTimed s.low s.halves.items s.times) (sym w.self-inside-is)
          (grown_timed c.self.inside.low c.self.inside.halves.items c.self.inside.times w.grow.new.self is w.grow.ensures.kept w.grow.ensures.same w.grow.ensures.never)
      | else-count-len w ↦ subst (λ (s : Inside). AreTimed s.low s.halves.items s.times) (sym w.self-inside-is) is
    ])
