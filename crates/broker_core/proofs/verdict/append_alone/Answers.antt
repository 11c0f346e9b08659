use Rattle.std.proofs.Common.{subst, ℕ, [], ◌∷◌}
use Rattle.record_codec.specs.Entry.{Entry}
use Rattle.record_codec.specs.Drafts.{entry_of}
use Rattle.broker_model.specs.Step.{with_records}
use Rattle.core_log.specs.Represents.{Represents}
use Rattle.core_log.proofs.StoreLemmas.{on_ok}
use Rattle.broker_core.proofs.JudgeLemmas.{ready_alone}
use Rattle.broker_core.proofs.verdict.append_alone.Goals as goal

pub append_op-requires-clause-some : goal.append_op-requires-clause-some
append_op-requires-clause-some c =
    let s = c.requires.some.0 in
    let are0 = c.requires.some.1 in
    let it = c.requires.some.2 in
    let old = c.args.parts.now in
    let core = c.make_ready.new.self in
    let d = c.args.op.now in
    let mine = c.in_ok-table.ensures.number in
    let ready = ready_alone old core s c.args.now c.args.origin d c.next_place-place.result c.in_ok-table.table c.args.size are0 (c.in_ok-table.ensures.stays s are0) it mine
    c.next_place-place.ensures.queue_offset c.next_place-place.ensures.offset c.next_place-place.ensures.store c.requires.size c.requires.room in
    (s, c.in_ok-table.ensures.stays s are0, ready.may)

pub append_op-requires-clause-encodable : goal.append_op-requires-clause-encodable
append_op-requires-clause-encodable c =
    let s = c.requires.some.0 in
    let are0 = c.requires.some.1 in
    let it = c.requires.some.2 in
    let old = c.args.parts.now in
    let core = c.make_ready.new.self in
    let d = c.args.op.now in
    let mine = c.in_ok-table.ensures.number in
    let ready = ready_alone old core s c.args.now c.args.origin d c.next_place-place.result c.in_ok-table.table c.args.size are0 (c.in_ok-table.ensures.stays s are0) it mine
    c.next_place-place.ensures.queue_offset c.next_place-place.ensures.offset c.next_place-place.ensures.store c.requires.size c.requires.room in
    ready.written

pub append_op-requires-clause-short : goal.append_op-requires-clause-short
append_op-requires-clause-short c =
    let s = c.requires.some.0 in
    let are0 = c.requires.some.1 in
    let it = c.requires.some.2 in
    let old = c.args.parts.now in
    let core = c.make_ready.new.self in
    let d = c.args.op.now in
    let mine = c.in_ok-table.ensures.number in
    let ready = ready_alone old core s c.args.now c.args.origin d c.next_place-place.result c.in_ok-table.table c.args.size are0 (c.in_ok-table.ensures.stays s are0) it mine
    c.next_place-place.ensures.queue_offset c.next_place-place.ensures.offset c.next_place-place.ensures.store c.requires.size c.requires.room in
    ready.short

pub append_op-requires-clause-op : goal.append_op-requires-clause-op
append_op-requires-clause-op c =
    let s = c.requires.some.0 in
    let are0 = c.requires.some.1 in
    let it = c.requires.some.2 in
    let old = c.args.parts.now in
    let core = c.make_ready.new.self in
    let d = c.args.op.now in
    let mine = c.in_ok-table.ensures.number in
    let ready = ready_alone old core s c.args.now c.args.origin d c.next_place-place.result c.in_ok-table.table c.args.size are0 (c.in_ok-table.ensures.stays s are0) it mine
    c.next_place-place.ensures.queue_offset c.next_place-place.ensures.offset c.next_place-place.ensures.store c.requires.size c.requires.room in
    ready.is_op_of

pub returns-clause-appended : goal.returns-clause-appended
returns-clause-appended c =
    on_ok c.append_op.result c.append_op.ensures.appended (λ done s are0 it.
    let old = c.args.parts.now in
    let core = c.make_ready.new.self in
    let d = c.args.op.now in
    let mine = c.in_ok-table.ensures.number in
    let ready = ready_alone old core s c.args.now c.args.origin d c.next_place-place.result c.in_ok-table.table c.args.size are0 (c.in_ok-table.ensures.stays s are0) it mine
    c.next_place-place.ensures.queue_offset c.next_place-place.ensures.offset c.next_place-place.ensures.store c.requires.size c.requires.room in
    let new = c.append_op.new.self in
    subst (λ (r : Entry). Represents new (with_records s c.args.now (r ∷ []))) ready.next
    (subst (λ (time : ℕ). Represents new (with_records s time (entry_of d c.next_place-place.result ∷ []))) ready.at (done s (c.in_ok-table.ensures.stays s are0) ready.may)))
