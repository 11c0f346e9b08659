use Rattle.std.proofs.Common.{◌<◌, ◌-◌, List, length, subst, sym, arith}
use Rattle.delay_view.specs.Levels.{Level, with_next_seen}
use Rattle.delay_view.specs.OfLog.{AreLevelsOf}
use Rattle.delay_view.proofs.GrowthLemmas.{get_there, seen_levels}
use Rattle.delay_view.proofs.IdleLemmas.{low_idle}
use Rattle.delay_view.proofs.view.DelayView.see.Goals as goal

pub returns-clause-records : goal.returns-clause-records
returns-clause-records c log d r are record_is message =
    let levels = c.self.inside.levels.items in
    let there = subst (λ (ls : List Level). AreLevelsOf log d ls) (sym c.self.view_is) are in
    let within : c.args.level - 1 < length levels = (let all = c.self.invariant.all in let high = c.requires.high in let low = c.requires.low in omega (arith, all, high, low)) in
    let at = get_there levels (c.args.level - 1) within in
    seen_levels log d levels c.see_one.new.levels.items c.args.level at.0 r c.requires.low there record_is message at.1 (c.see_one.ensures.level at.0 at.1)

pub invariant_of-self : goal.invariant_of-self
invariant_of-self c =
    let levels = c.self.inside.levels.items in
    let within : c.args.level - 1 < length levels = (let all = c.self.invariant.all in let high = c.requires.high in let low = c.requires.low in omega (arith, all, high, low)) in
    let at = get_there levels (c.args.level - 1) within in
    let least = c.min-self-inside.ensures in
    low_idle levels c.see_one.new.levels.items (c.args.level - 1) c.self.inside.idle c.min-self-inside.result (with_next_seen at.0) c.self.invariant (c.see_one.ensures.level at.0 at.1)
    (omega (arith, least)) (omega (arith, least))
