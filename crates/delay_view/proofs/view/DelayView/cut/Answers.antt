use Rattle.std.proofs.Common.{◌≡◌, ◌∙◌, ◌-◌, ◌<◌, inl, inr, List, length, slice_get, Some, refl, subst, sym, ap, arith}
use Rattle.log_model.specs.Numbered.{above}
use Rattle.delay_view.specs.Levels.{Level, cut_at}
use Rattle.delay_view.specs.OfLog.{IsLevelOf}
use Rattle.delay_view.proofs.GrowthLemmas.{at_set, get_there}
use Rattle.delay_view.proofs.CutLemmas.{cut_level}
use Rattle.delay_view.proofs.IdleLemmas.{low_idle}
use Rattle.delay_view.proofs.view.DelayView.cut.Goals as goal

pub returns-clause-records : goal.returns-clause-records
returns-clause-records c log d n later l m at is cut seen low there =
    let levels = c.self.inside.levels.items in
    let old : slice_get levels (c.args.level - 1) ≡ Some l = subst (λ (ls : List Level). slice_get ls (c.args.level - 1) ≡ Some l) (sym c.self.view_is) at in
    elim (at_set levels (c.args.level - 1) (c.args.level - 1) (cut_at l c.args.min) m
    (subst (λ (ls : List Level). slice_get ls (c.args.level - 1) ≡ Some m) (c.cut_one.ensures.level l old) there)) [
      | inl here ↦ subst (λ (x : Level). IsLevelOf (above log later) d c.args.level x) (ap (cut_at l) (sym low) ∙ sym here.1)
          (cut_level log d n c.args.level later l c.requires.first c.requires.last is cut seen)
      | inr other ↦ absurd (other.0 refl)
    ]

pub invariant_of-self : goal.invariant_of-self
invariant_of-self c =
    let levels = c.self.inside.levels.items in
    let within : c.args.level - 1 < length levels = (let all = c.self.invariant.all in let high = c.requires.last in let low = c.requires.first in omega (arith, all, high, low)) in
    let at = get_there levels (c.args.level - 1) within in
    let least = c.min-self-inside.ensures in
    low_idle levels c.cut_one.new.levels.items (c.args.level - 1) c.self.inside.idle c.min-self-inside.result (cut_at at.0 c.args.min) c.self.invariant (c.cut_one.ensures.level at.0 at.1)
    (omega (arith, least)) (omega (arith, least))
