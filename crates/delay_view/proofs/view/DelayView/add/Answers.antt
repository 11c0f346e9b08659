use Rattle.std.proofs.Common.{◌<◌, ◌-◌, List, length, refl, subst, sym, arith}
use Rattle.delay_view.specs.Levels.{Level, with_time}
use Rattle.delay_view.specs.OfLog.{AreLevelsOf}
use Rattle.delay_view.proofs.GrowthLemmas.{get_there, added_levels}
use Rattle.delay_view.proofs.IdleLemmas.{as_idle}
use Rattle.delay_view.proofs.view.DelayView.add.Goals as goal

pub returns-clause-records : goal.returns-clause-records
returns-clause-records c log d r are few message timed =
    let levels = c.self.inside.levels.items in
    let there = subst (λ (ls : List Level). AreLevelsOf log d ls) (sym c.self.view_is) are in
    let within : c.args.level - 1 < length levels = (let all = c.self.invariant.all in let high = c.requires.high in let low = c.requires.low in omega (arith, all, high, low)) in
    let at = get_there levels (c.args.level - 1) within in
    let changed = c.add_time.ensures.level at.0 at.1 in
    added_levels log d levels c.add_time.new.levels.items c.args.level at.0 r c.args.time changed.0 c.requires.low there few message timed at.1 changed.2

pub invariant_of-self : goal.invariant_of-self
invariant_of-self c =
    let levels = c.self.inside.levels.items in
    let within : c.args.level - 1 < length levels = (let all = c.self.invariant.all in let high = c.requires.high in let low = c.requires.low in omega (arith, all, high, low)) in
    let at = get_there levels (c.args.level - 1) within in
    let changed = c.add_time.ensures.level at.0 at.1 in
    as_idle levels c.add_time.new.levels.items (c.args.level - 1) c.self.inside.idle at.0 (with_time at.0 c.args.time changed.0) c.self.invariant at.1 refl changed.2
