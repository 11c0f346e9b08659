use Rattle.std.proofs.Common.{◌∷◌, [], subst}
use Rattle.log_model.specs.Numbered.{with_appended}
use Rattle.half_view.specs.Halves.{HalfTable}
use Rattle.half_view.specs.OfLog.{AreHalvesOf}
use Rattle.half_view.proofs.GrowthLemmas.{others_follow}
use Rattle.half_records.proofs.HalvesLemmas.{has_with, keeps}
use Rattle.half_records.proofs.laws.what_settles_nothing_leaves_the_half_messages.Goals as goal

pub returns : goal.returns
returns c segment log r h well follows has other settles =
    has_with segment log well r other h (keeps segment log well h has)
    (subst (λ (t : HalfTable). AreHalvesOf (with_appended log (r ∷ [])) t) settles (others_follow segment log r h.view well follows has.view other))
