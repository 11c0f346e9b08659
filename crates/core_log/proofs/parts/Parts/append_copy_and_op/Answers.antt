use Rattle.std.proofs.Common.{◌∙◌, refl, ap, sym, subst, arith, ℕ, ◌+◌, ◌<◌, ◌≤◌, ◌^◌, [], ◌∷◌, ◌++◌, length, length-append, Some}
use Rattle.record_codec.specs.Drafts.{entry_of, draft_size}
use Rattle.log_model.specs.Log.{place_after}
use Rattle.half_records.specs.declared.halves.Halves.{Halves}
use Rattle.pending_log.specs.Parts.{PendingPart}
use Rattle.pending_log.specs.Pending.{IsPendingOf}
use Rattle.pending_log.specs.Tables.{RowTable}
use Rattle.pending_log.specs.Rows.{AreRowsOf}
use Rattle.log_model.specs.Numbered.{with_appended}
use Rattle.queue_view.proofs.NumberedLemmas.{number_within}
use Rattle.core_log.specs.declared.parts.Parts.{Parts}
use Rattle.broker_model.specs.Step.{with_records}
use Rattle.core_log.specs.Represents.{Represents}
use Rattle.core_log.specs.Appends.{HasRoomFor, key_count}
use Rattle.core_log.proofs.AppendLemmas.{rows_few, unit_kept}
use Rattle.core_log.proofs.TwoLemmas.{Settles, second_place, stood, room_left, rows_few_too, represents_two}
use Rattle.core_log.proofs.parts.Parts.append_copy_and_op.Goals as goal

pub encode_two-requires-clause-behind : goal.encode_two-requires-clause-behind
encode_two-requires-clause-behind c =
    let copy = c.args.copy.now in
    let op = c.args.op.now in
    second_place c.requires.some.0 copy.draft.now copy.place op.draft.now op.place c.requires.some.2
    ∙ ap (λ (n : ℕ). place_after n (copy.place.offset + draft_size copy.draft.now) (draft_size op.draft.now)) (sym c.requires.some.1.numbers.segment)

pub stand-requires-clause-room : goal.stand-requires-clause-room
stand-requires-clause-room c =
    let rows = c.requires.room.rows in
    let keys = c.requires.room.keys in
    subst (λ (core : Parts). HasRoomFor core c.args.copy.now.table c.args.copy.now.draft.now) (sym c.in_ok-encode_two.ensures.both)
    (record { row = omega (arith, rows); unit = c.requires.room.unit; keys = omega (arith, keys) })

pub stand-requires-clause-few : goal.stand-requires-clause-few
stand-requires-clause-few c =
    subst (λ (core : Parts). core.rows.first + length core.rows.items < 2 ^ 62) (sym c.in_ok-encode_two.ensures.both) (rows_few c.args.self.now c.requires.some.0 c.requires.some.1)

pub stand-requires-2-clause-there : goal.stand-requires-2-clause-there
stand-requires-2-clause-there c =
    let copy = c.args.copy.now in
    let op = c.args.op.now in
    let r = entry_of copy.draft.now copy.place in
    let old = c.args.self.now.queues in
    let unit = stood old c.encode_two.new.self.queues copy.draft.now copy.place copy.table c.stand.new.self.queues (ap (λ (core : Parts). core.queues) c.in_ok-encode_two.ensures.both) c.requires.table
    c.stand.ensures.table c.stand.ensures.records in
    number_within c.stand.new.self.queues op.draft.now.topic op.draft.now.queue op.table
    (unit_kept old c.stand.new.self.queues copy.table r unit op.draft.now.topic op.draft.now.queue op.table c.requires.table_too)

pub stand-requires-2-clause-room : goal.stand-requires-2-clause-room
stand-requires-2-clause-room c =
    let copy = c.args.copy.now in
    let old = c.args.self.now.queues in
    let r = entry_of copy.draft.now copy.place in
    let unit = stood old c.encode_two.new.self.queues copy.draft.now copy.place copy.table c.stand.new.self.queues (ap (λ (core : Parts). core.queues) c.in_ok-encode_two.ensures.both) c.requires.table
    c.stand.ensures.table c.stand.ensures.records in
    let rows = c.requires.room.rows in
    let same = ap (λ (core : Parts). core.rows.spare) c.in_ok-encode_two.ensures.both in
    let spare = c.stand.ensures.spare in
    let keys = c.requires.room.keys in
    let keys_same = ap (λ (core : Parts). core.keys.spare) c.in_ok-encode_two.ensures.both in
    let keys_spare : c.encode_two.new.self.keys.spare ≤ c.stand.new.self.keys.spare + key_count copy.draft.now = c.stand.ensures.key_spare in
    record {
      row = omega (arith, rows, same, spare);
      unit = room_left old c.stand.new.self.queues copy.table c.args.op.now.table r unit c.requires.room.apart c.requires.room.unit_too;
      keys = omega (arith, keys, keys_same, keys_spare);
    }

pub stand-requires-2-clause-few : goal.stand-requires-2-clause-few
stand-requires-2-clause-few c =
    let copy = c.args.copy.now in
    let few = rows_few_too c.args.self.now c.requires.some.0 copy.draft.now copy.place c.requires.some.1 c.requires.some.2.first in
    let first = c.stand.ensures.first ∙ ap (λ (core : Parts). core.rows.first) c.in_ok-encode_two.ensures.both in
    let items = ap length c.stand.ensures.items in
    let same = ap (λ (core : Parts). length core.rows.items) c.in_ok-encode_two.ensures.both in
    let long = length-append c.encode_two.new.self.rows.items (record { place = copy.place.offset; size = draft_size copy.draft.now; table = copy.table } ∷ []) in
    omega (arith, few, first, items, same, long)

pub returns-clause-appended : goal.returns-clause-appended
returns-clause-appended c s are may =
    let old = c.args.self.now in
    let copy = c.args.copy.now in
    let op = c.args.op.now in
    let d = copy.draft.now in
    let p = copy.place in
    let e = op.draft.now in
    let q = op.place in
    let r = entry_of d p in
    let both = c.in_ok-encode_two.ensures.both in
    let queues = c.stand.new.self.queues in
    let queues_too = c.stand-2.new.self.queues in
    let unit = stood old.queues c.encode_two.new.self.queues d p copy.table queues (ap (λ (core : Parts). core.queues) both) c.requires.table c.stand.ensures.table c.stand.ensures.records in
    let mine = unit_kept old.queues queues copy.table r unit e.topic e.queue op.table c.requires.table_too in
    let unit_too = stood queues queues e q op.table queues_too refl mine c.stand-2.ensures.table c.stand-2.ensures.records in
    let rows_same = ap (λ (core : Parts). core.rows) both in
    let settled = c.settle-2.new.self in
    let rows_too = c.stand-2.new.self.rows in
    let keys_too = c.stand-2.new.self.keys in
    let halves_same = ap (λ (core : Parts). core.halves) c.stand-2.ensures.rest ∙ ap (λ (core : Parts). core.halves) c.stand.ensures.rest ∙ ap (λ (core : Parts). core.halves) both in
    let whole = ap (λ (core : Parts). record core { halves = settled }) c.stand-2.ensures.rest
    ∙ ap (λ (core : Parts). record core { queues = queues_too; rows = rows_too; keys = keys_too; now = q.store; halves = settled }) c.stand.ensures.rest
    ∙ ap (λ (core : Parts). record core { queues = queues_too; rows = rows_too; keys = keys_too; now = q.store; halves = settled }) both in
    subst (λ (core : Parts). Represents core (with_records s p.store (r ∷ entry_of e q ∷ []))) (sym whole)
    (represents_two old s d p e q copy.table op.table c.args.origin c.end-number.result c.args.how queues queues_too c.stand.new.self.rows c.stand-2.new.self.rows c.stand.new.self.keys keys_too c.settle.new.self c.settle-2.new.self are may
    c.in_ok-encode_two.ensures.first c.in_ok-encode_two.ensures.second c.requires.table c.requires.table_too (c.in_ok-encode_two.ensures.log_first s.log are.pending)
    (subst (λ (v : PendingPart). IsPendingOf (with_appended (with_appended s.log (r ∷ [])) (entry_of e q ∷ [])) v) (ap (λ (core : Parts). core.pending) both) (c.in_ok-encode_two.ensures.log s.log are.pending))
    unit unit_too
    (c.stand.ensures.items ∙ ap (λ (rows : RowTable). rows.items ++ record { place = p.offset; size = draft_size d; table = copy.table } ∷ []) rows_same)
    c.stand-2.ensures.items
    (c.stand.ensures.log s.log (subst (λ (rows : RowTable). AreRowsOf s.log rows) (sym rows_same) are.rows))
    (c.stand-2.ensures.log (with_appended s.log (r ∷ [])) (c.stand.ensures.log s.log (subst (λ (rows : RowTable). AreRowsOf s.log rows) (sym rows_same) are.rows)))
    (λ log is. c.stand.ensures.keys log (ap (λ (core : Parts). core.keys.entries) both ∙ is)) c.stand-2.ensures.keys
    c.requires.copy c.requires.op c.end-number.ensures.value
    (subst (λ (h : Halves). Settles h c.settle.new.self (Some c.args.origin) c.args.how c.end-number.result) halves_same c.settle.ensures.records) c.settle-2.ensures.records)
