use Rattle.std.proofs.Common.{◌<◌, ◌-◌, ◌∙◌, List, length, subst, sym, ap, arith, length-set}
use Rattle.delay_view.specs.Levels.{Level, with_next_copied}
use Rattle.delay_view.specs.OfLog.{AreLevelsOf}
use Rattle.delay_view.proofs.GrowthLemmas.{get_there, copied_levels}
use Rattle.delay_view.proofs.IdleLemmas.{idle_beside}
use Rattle.delay_view.proofs.view.DelayView.copied.Goals as goal

pub returns-clause-records : goal.returns-clause-records
returns-clause-records c log d r are few copy =
    let levels = c.self.inside.levels.items in
    let there = subst (λ (ls : List Level). AreLevelsOf log d ls) (sym c.self.view_is) are in
    let within : c.args.level - 1 < length levels = (let all = c.self.invariant.all in let high = c.requires.high in let low = c.requires.low in omega (arith, all, high, low)) in
    let at = get_there levels (c.args.level - 1) within in
    copied_levels log d levels c.copy_one.new.levels.items c.args.level at.0 r c.requires.low there few copy at.1 (c.copy_one.ensures.level at.0 at.1)

pub invariant_of-self : goal.invariant_of-self
invariant_of-self c =
    let levels = c.self.inside.levels.items in
    let within : c.args.level - 1 < length levels = (let all = c.self.invariant.all in let high = c.requires.high in let low = c.requires.low in omega (arith, all, high, low)) in
    let at = get_there levels (c.args.level - 1) within in
    let changed = c.copy_one.ensures.level at.0 at.1 in
    let size = ap length changed ∙ length-set levels (c.args.level - 1) (with_next_copied at.0) in
    let all = c.self.invariant.all in
    let few = c.idle_after-self-inside.ensures.few in
    record {
      all = omega (arith, size, all);
      few = omega (arith, size, all, few);
      none = λ k l less there. c.idle_after-self-inside.ensures.none k l less there;
    }

pub idle_after-self-inside-requires-clause-others : goal.idle_after-self-inside-requires-clause-others
idle_after-self-inside-requires-clause-others c =
    let levels = c.self.inside.levels.items in
    let within : c.args.level - 1 < length levels = (let all = c.self.invariant.all in let high = c.requires.high in let low = c.requires.low in omega (arith, all, high, low)) in
    let at = get_there levels (c.args.level - 1) within in
    idle_beside levels c.copy_one.new.levels.items (c.args.level - 1) c.self.inside.idle (with_next_copied at.0) c.self.invariant (c.copy_one.ensures.level at.0 at.1)
