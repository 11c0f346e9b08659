use Rattle.std.proofs.Common.{◌-◌, ◌<◌, arith}
use Rattle.delay_view.proofs.GrowthLemmas.{get_there}
use Rattle.level_records.proofs.LineLemmas.{roomy_lines, room_line, on_ok}
use Rattle.level_records.proofs.levels.Levels.reserve.Goals as goal

pub returns-in_err-reserve-clause-same : goal.returns-in_err-reserve-clause-same
returns-in_err-reserve-clause-same c log d are = record { view = c.in_err-reserve.ensures.records log d are.view; waiting = are.waiting }

pub returns-clause-room : goal.returns-clause-room
returns-clause-room c =
    let lines = c.args.self.now.waiting.items in
    let first = c.requires.low in
    let last = c.requires.high in
    let all = c.args.self.now.eighteen in
    let line = get_there lines (c.args.level - 1) (omega (arith, all, first, last)) in
    let done = c.make_room.ensures.line line.0 line.1 in
    on_ok c.make_room.result (0 < done.0) _
    (λ room. record {
      view = c.in_ok-reserve.ensures.room;
      line = λ m there. room_line lines c.make_room.new.lines.items (c.args.level - 1) line.0 m done.0 line.1 done.3 room there;
    })
    done.2

pub returns-clause-same : goal.returns-clause-same
returns-clause-same c log d are =
    let lines = c.args.self.now.waiting.items in
    let first = c.requires.low in
    let last = c.requires.high in
    let all = are.waiting.all in
    let line = get_there lines (c.args.level - 1) (omega (arith, all, first, last)) in
    let done = c.make_room.ensures.line line.0 line.1 in
    record {
      view = c.in_ok-reserve.ensures.records log d are.view;
      waiting = roomy_lines log lines c.make_room.new.lines.items (c.args.level - 1) line.0 done.0 are.waiting line.1 done.3;
    }
