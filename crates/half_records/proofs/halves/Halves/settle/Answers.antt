use Rattle.std.proofs.Common.{◌∙◌, ◌∷◌, [], sym, subst}
use Rattle.log_model.specs.Numbered.{with_appended}
use Rattle.half_view.specs.Halves.{HalfTable}
use Rattle.half_view.specs.OfLog.{AreHalvesOf}
use Rattle.half_view.proofs.GrowthLemmas.{others_follow}
use Rattle.half_records.proofs.HalvesLemmas.{keeps, has_with}
use Rattle.half_records.proofs.halves.Halves.settle.Goals as goal

pub returns-clause-records : goal.returns-clause-records
returns-clause-records c segment log r well follows has other settles =
    let old = c.args.self.now in
    let new = c.settle_kept.new.self in
    has_with segment log well r other new (c.settle_kept.ensures.families log (keeps segment log well old has))
    (subst (λ (t : HalfTable). AreHalvesOf (with_appended log (r ∷ [])) t) (settles ∙ sym c.settle_kept.ensures.view)
    (others_follow segment log r old.view well follows has.view other))
