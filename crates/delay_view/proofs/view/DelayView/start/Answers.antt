use Rattle.std.proofs.Common.{◌≡◌, ◌<◌, ◌-◌, inl, inr, List, length, slice_get, Some, refl, subst, sym, arith}
use Rattle.delay_view.specs.Levels.{Level, started}
use Rattle.delay_view.specs.OfLog.{IsLevelOf, empty_log}
use Rattle.delay_view.proofs.GrowthLemmas.{get_there, at_set}
use Rattle.delay_view.proofs.CutLemmas.{none_there, empty_level_is}
use Rattle.delay_view.proofs.IdleLemmas.{low_idle}
use Rattle.delay_view.proofs.view.DelayView.start.Goals as goal

pub returns-clause-records : goal.returns-clause-records
returns-clause-records c base d l items copies at =
    let levels = c.self.inside.levels.items in
    let within : c.args.level - 1 < length levels = (let all = c.self.invariant.all in let high = c.requires.high in let low = c.requires.low in omega (arith, all, high, low)) in
    let old = get_there levels (c.args.level - 1) within in
    let changed = c.start_one.ensures.level old.0 old.1 in
    let none = c.requires.none old.0 (subst (λ (ls : List Level). slice_get ls (c.args.level - 1) ≡ Some old.0) c.self.view_is old.1) in
    elim (at_set levels (c.args.level - 1) (c.args.level - 1) (started old.0 c.args.items c.args.copies changed.0) l
    (subst (λ (ls : List Level). slice_get ls (c.args.level - 1) ≡ Some l) changed.1 at)) [
      | inl here ↦ subst (λ (x : Level). IsLevelOf (empty_log base) d c.args.level x) (sym here.1)
          (empty_level_is base d c.args.level (started old.0 c.args.items c.args.copies changed.0) items (none_there old.0.times none) refl copies)
      | inr other ↦ absurd (other.0 refl)
    ]

pub invariant_of-self : goal.invariant_of-self
invariant_of-self c =
    let levels = c.self.inside.levels.items in
    let within : c.args.level - 1 < length levels = (let all = c.self.invariant.all in let high = c.requires.high in let low = c.requires.low in omega (arith, all, high, low)) in
    let at = get_there levels (c.args.level - 1) within in
    let changed = c.start_one.ensures.level at.0 at.1 in
    let least = c.min-self-inside.ensures in
    low_idle levels c.start_one.new.levels.items (c.args.level - 1) c.self.inside.idle c.min-self-inside.result (started at.0 c.args.items c.args.copies changed.0) c.self.invariant changed.1
    (omega (arith, least)) (omega (arith, least))
