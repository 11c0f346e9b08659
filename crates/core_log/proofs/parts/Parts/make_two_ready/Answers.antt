use Rattle.std.proofs.Common.{◌≡◌, ◌∙◌, ◌+◌, ◌≤◌, refl, ap, sym, arith, rules, ℕ, List, length}
use Rattle.queue_view.specs.Tables.{number_of}
use Rattle.queue_view.proofs.NumberedLemmas.{number_within}
use Rattle.broker_model.specs.State.{Setup}
use Rattle.core_log.specs.Appends.{key_count}
use Rattle.core_log.proofs.AppendLemmas.{represents_roomier}
use Rattle.core_log.proofs.TableLemmas.{numbers_kept}
use Rattle.core_log.proofs.TwoLemmas.{room_kept, tables_apart}
use Rattle.core_log.proofs.parts.Parts.make_two_ready.Goals as goal

pub returns-in_err-reserve-clause-stays : goal.returns-in_err-reserve-clause-stays
returns-in_err-reserve-clause-stays c s are =
    let old = c.args.self.now in
    represents_roomier old old.rows old.queues c.reserve.new.self s are refl refl (λ topic queue k is. is) (λ low added n tables. tables) c.reserve.ensures.entries

pub returns-in_err-reserve-2-clause-stays : goal.returns-in_err-reserve-2-clause-stays
returns-in_err-reserve-2-clause-stays c s are =
    let old = c.args.self.now in
    represents_roomier old c.reserve-2.new.self old.queues c.reserve.new.self s are c.reserve-2.ensures.first c.reserve-2.ensures.items (λ topic queue k is. is) (λ low added n tables. tables)
    c.reserve.ensures.entries

pub returns-in_err-table-clause-stays : goal.returns-in_err-table-clause-stays
returns-in_err-table-clause-stays c s are =
    let old = c.args.self.now in
    let d = c.args.first.now in
    represents_roomier old c.reserve-2.new.self c.reserve-3.new.self c.reserve.new.self s are c.reserve-2.ensures.first c.reserve-2.ensures.items
    (numbers_kept c.reserve-3.result old.queues c.reserve-3.new.self c.as_str.result.now d.queue c.reserve-3.ensures.there c.reserve-3.ensures.absent c.reserve-3.ensures.same)
    c.reserve-3.ensures.records c.reserve.ensures.entries

pub returns-in_err-second_table-clause-stays : goal.returns-in_err-second_table-clause-stays
returns-in_err-second_table-clause-stays c s are =
    let old = c.args.self.now in
    let d = c.args.first.now in
    let e = c.args.second.now in
    represents_roomier old c.reserve-2.new.self c.reserve-4.new.self c.reserve.new.self s are c.reserve-2.ensures.first c.reserve-2.ensures.items
    (λ topic queue k is. numbers_kept c.reserve-4.result c.reserve-3.new.self c.reserve-4.new.self c.as_str-2.result.now e.queue c.reserve-4.ensures.there c.reserve-4.ensures.absent c.reserve-4.ensures.same topic queue k
    (numbers_kept c.reserve-3.result old.queues c.reserve-3.new.self c.as_str.result.now d.queue c.reserve-3.ensures.there c.reserve-3.ensures.absent c.reserve-3.ensures.same topic queue k is))
    (λ low added n is. c.reserve-4.ensures.records low added n (c.reserve-3.ensures.records low added n is)) c.reserve.ensures.entries

pub next_place-place-requires : goal.next_place-place-requires
next_place-place-requires c =
    let d = c.args.first.now in
    let e = c.args.second.now in
    number_within c.reserve-4.new.self c.as_str.result.now d.queue c.in_ok-table.table
    (numbers_kept c.reserve-4.result c.reserve-3.new.self c.reserve-4.new.self c.as_str-2.result.now e.queue c.reserve-4.ensures.there c.reserve-4.ensures.absent c.reserve-4.ensures.same c.as_str.result.now d.queue c.in_ok-table.table c.in_ok-table.ensures.number)

pub next_place-requires-clause-some : goal.next_place-requires-clause-some
next_place-requires-clause-some c =
    let are = c.requires.some.1 in
    let same = ap (λ (x : Setup). x.segment) are.numbers.setup in
    let low = are.state.log.segment.low in
    omega (arith, same, low)

pub returns-clause-table : goal.returns-clause-table
returns-clause-table c =
    let d = c.args.first.now in
    let e = c.args.second.now in
    ap (λ (name : List ℕ). number_of c.reserve-4.new.self name d.queue) (sym c.as_str.ensures.value)
    ∙ numbers_kept c.reserve-4.result c.reserve-3.new.self c.reserve-4.new.self c.as_str-2.result.now e.queue c.reserve-4.ensures.there c.reserve-4.ensures.absent c.reserve-4.ensures.same c.as_str.result.now d.queue c.in_ok-table.table c.in_ok-table.ensures.number

pub returns-clause-room : goal.returns-clause-room
returns-clause-room c =
    let d = c.args.first.now in
    let e = c.args.second.now in
    let mine = numbers_kept c.reserve-4.result c.reserve-3.new.self c.reserve-4.new.self c.as_str-2.result.now e.queue c.reserve-4.ensures.there c.reserve-4.ensures.absent c.reserve-4.ensures.same c.as_str.result.now d.queue c.in_ok-table.table c.in_ok-table.ensures.number in
    let within = number_within c.reserve-3.new.self c.as_str.result.now d.queue c.in_ok-table.table c.in_ok-table.ensures.number in
    let first : c.count.result ≡ key_count d = c.count.ensures ∙ ap (λ (hashes : List ℕ). length hashes) c.of_draft-one.ensures in
    let second : c.count-2.result ≡ key_count e = c.count-2.ensures ∙ ap (λ (hashes : List ℕ). length hashes) c.of_draft-other.ensures in
    let all : c.in-Some.keys ≡ c.count.result + c.count-2.result = search rules in
    let room = c.in_ok-reserve.ensures.spare in
    let keys : key_count d + key_count e ≤ c.reserve.new.self.spare = omega (arith, first, second, all, room) in
    record {
      rows = c.in_ok-reserve-2.ensures.spare;
      unit = room_kept c.reserve-3.new.self c.reserve-4.new.self c.as_str-2.result.now e.queue c.in_ok-table.table c.reserve-4.result
          c.reserve-4.ensures.there c.reserve-4.ensures.absent c.reserve-4.ensures.same within c.in_ok-table.ensures.room;
      unit_too = c.in_ok-second_table.ensures.room;
      apart = tables_apart c.reserve-4.new.self c.as_str.result.now c.as_str-2.result.now d.queue e.queue c.in_ok-table.table c.in_ok-second_table.second_table mine c.in_ok-second_table.ensures.number
          (λ same. c.requires.apart (sym c.as_str.ensures.value ∙ same ∙ c.as_str-2.ensures.value));
      keys = keys;
    }

pub returns-clause-stays : goal.returns-clause-stays
returns-clause-stays c s are =
    let old = c.args.self.now in
    let d = c.args.first.now in
    let e = c.args.second.now in
    represents_roomier old c.reserve-2.new.self c.reserve-4.new.self c.reserve.new.self s are c.reserve-2.ensures.first c.reserve-2.ensures.items
    (λ topic queue k is. numbers_kept c.reserve-4.result c.reserve-3.new.self c.reserve-4.new.self c.as_str-2.result.now e.queue c.reserve-4.ensures.there c.reserve-4.ensures.absent c.reserve-4.ensures.same topic queue k
    (numbers_kept c.reserve-3.result old.queues c.reserve-3.new.self c.as_str.result.now d.queue c.reserve-3.ensures.there c.reserve-3.ensures.absent c.reserve-3.ensures.same topic queue k is))
    (λ low added n is. c.reserve-4.ensures.records low added n (c.reserve-3.ensures.records low added n is)) c.reserve.ensures.entries
