use Rattle.std.proofs.Common.{◌<◌, ◌-◌, List, length, refl, subst, sym, arith}
use Rattle.delay_view.specs.Levels.{Level, with_room}
use Rattle.delay_view.specs.OfLog.{AreLevelsOf}
use Rattle.delay_view.proofs.GrowthLemmas.{get_there, roomy_levels, room_there}
use Rattle.delay_view.proofs.IdleLemmas.{as_idle}
use Rattle.delay_view.proofs.view.DelayView.reserve.Goals as goal

pub returns-clause-records : goal.returns-clause-records
returns-clause-records c log d are =
    let levels = c.self.inside.levels.items in
    let there = subst (λ (ls : List Level). AreLevelsOf log d ls) (sym c.self.view_is) are in
    let within : c.args.level - 1 < length levels = (let all = c.self.invariant.all in let high = c.requires.high in let low = c.requires.low in omega (arith, all, high, low)) in
    let at = get_there levels (c.args.level - 1) within in
    let changed = c.make_room.ensures.level at.0 at.1 in
    roomy_levels log d levels c.make_room.new.levels.items c.args.level at.0 changed.0 there at.1 changed.3

pub returns-clause-room : goal.returns-clause-room
returns-clause-room c =
    let levels = c.self.inside.levels.items in
    let within : c.args.level - 1 < length levels = (let all = c.self.invariant.all in let high = c.requires.high in let low = c.requires.low in omega (arith, all, high, low)) in
    room_there c.make_room.result levels c.make_room.new.levels.items (c.args.level - 1) within c.make_room.ensures.level

pub invariant_of-self : goal.invariant_of-self
invariant_of-self c =
    let levels = c.self.inside.levels.items in
    let within : c.args.level - 1 < length levels = (let all = c.self.invariant.all in let high = c.requires.high in let low = c.requires.low in omega (arith, all, high, low)) in
    let at = get_there levels (c.args.level - 1) within in
    let changed = c.make_room.ensures.level at.0 at.1 in
    as_idle levels c.make_room.new.levels.items (c.args.level - 1) c.self.inside.idle at.0 (with_room at.0 changed.0) c.self.invariant at.1 refl changed.3
