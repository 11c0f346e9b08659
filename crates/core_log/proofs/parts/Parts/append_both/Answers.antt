use Rattle.std.proofs.Common.{◌∙◌, subst, ℕ, List, [], ◌∷◌}
use Rattle.record_codec.specs.Entry.{Entry}
use Rattle.record_codec.specs.Drafts.{entry_of}
use Rattle.broker_model.specs.Step.{with_records}
use Rattle.core_log.specs.Represents.{Represents}
use Rattle.core_log.proofs.StoreLemmas.{on_ok}
use Rattle.core_log.proofs.BothLemmas.{ready_in, topics_differ}
use Rattle.core_log.proofs.parts.Parts.append_both.Goals as goal

pub make_two_ready-requires-clause-apart : goal.make_two_ready-requires-clause-apart
make_two_ready-requires-clause-apart c =
    let some = c.requires.some in
    topics_differ some.0 c.args.now c.args.origin c.args.how some.1 c.args.copy.now c.args.op.now some.2.state some.3

pub append_copy_and_op-requires-clause-some : goal.append_copy_and_op-requires-clause-some
append_copy_and_op-requires-clause-some c =
    let some = c.requires.some in
    let s = some.0 in
    let half = some.1 in
    let are0 = some.2 in
    let it = some.3 in
    let old = c.args.self.now in
    let core = c.make_two_ready.new.self in
    let x = c.in_ok-copy.copy in
    let y = c.in_ok-copy.op in
    let ready = ready_in old core s c.args.now c.args.origin c.args.how half c.args.copy.now c.args.op.now x.draft.now y.draft.now x.place y.place x.table y.table x.size y.size c.args.sizes.0 c.args.sizes.1
    are0 (c.in_ok-copy.ensures.stays s are0) it c.in_ok-copy.ensures.drafts c.in_ok-copy.ensures.table c.in_ok-copy.ensures.table_too c.in_ok-copy.ensures.first_place c.in_ok-copy.ensures.second_place
    c.requires.sizes c.requires.room in
    (s, c.in_ok-copy.ensures.stays s are0, ready.0.may)

pub append_copy_and_op-requires-clause-encodable : goal.append_copy_and_op-requires-clause-encodable
append_copy_and_op-requires-clause-encodable c =
    let some = c.requires.some in
    let s = some.0 in
    let half = some.1 in
    let are0 = some.2 in
    let it = some.3 in
    let old = c.args.self.now in
    let core = c.make_two_ready.new.self in
    let x = c.in_ok-copy.copy in
    let y = c.in_ok-copy.op in
    let ready = ready_in old core s c.args.now c.args.origin c.args.how half c.args.copy.now c.args.op.now x.draft.now y.draft.now x.place y.place x.table y.table x.size y.size c.args.sizes.0 c.args.sizes.1
    are0 (c.in_ok-copy.ensures.stays s are0) it c.in_ok-copy.ensures.drafts c.in_ok-copy.ensures.table c.in_ok-copy.ensures.table_too c.in_ok-copy.ensures.first_place c.in_ok-copy.ensures.second_place
    c.requires.sizes c.requires.room in
    ready.0.written

pub append_copy_and_op-requires-clause-encodable_too : goal.append_copy_and_op-requires-clause-encodable_too
append_copy_and_op-requires-clause-encodable_too c =
    let some = c.requires.some in
    let s = some.0 in
    let half = some.1 in
    let are0 = some.2 in
    let it = some.3 in
    let old = c.args.self.now in
    let core = c.make_two_ready.new.self in
    let x = c.in_ok-copy.copy in
    let y = c.in_ok-copy.op in
    let ready = ready_in old core s c.args.now c.args.origin c.args.how half c.args.copy.now c.args.op.now x.draft.now y.draft.now x.place y.place x.table y.table x.size y.size c.args.sizes.0 c.args.sizes.1
    are0 (c.in_ok-copy.ensures.stays s are0) it c.in_ok-copy.ensures.drafts c.in_ok-copy.ensures.table c.in_ok-copy.ensures.table_too c.in_ok-copy.ensures.first_place c.in_ok-copy.ensures.second_place
    c.requires.sizes c.requires.room in
    ready.0.written_too

pub append_copy_and_op-requires-clause-short : goal.append_copy_and_op-requires-clause-short
append_copy_and_op-requires-clause-short c =
    let some = c.requires.some in
    let s = some.0 in
    let half = some.1 in
    let are0 = some.2 in
    let it = some.3 in
    let old = c.args.self.now in
    let core = c.make_two_ready.new.self in
    let x = c.in_ok-copy.copy in
    let y = c.in_ok-copy.op in
    let ready = ready_in old core s c.args.now c.args.origin c.args.how half c.args.copy.now c.args.op.now x.draft.now y.draft.now x.place y.place x.table y.table x.size y.size c.args.sizes.0 c.args.sizes.1
    are0 (c.in_ok-copy.ensures.stays s are0) it c.in_ok-copy.ensures.drafts c.in_ok-copy.ensures.table c.in_ok-copy.ensures.table_too c.in_ok-copy.ensures.first_place c.in_ok-copy.ensures.second_place
    c.requires.sizes c.requires.room in
    ready.0.short

pub append_copy_and_op-requires-clause-copy : goal.append_copy_and_op-requires-clause-copy
append_copy_and_op-requires-clause-copy c =
    let some = c.requires.some in
    let s = some.0 in
    let half = some.1 in
    let are0 = some.2 in
    let it = some.3 in
    let old = c.args.self.now in
    let core = c.make_two_ready.new.self in
    let x = c.in_ok-copy.copy in
    let y = c.in_ok-copy.op in
    let ready = ready_in old core s c.args.now c.args.origin c.args.how half c.args.copy.now c.args.op.now x.draft.now y.draft.now x.place y.place x.table y.table x.size y.size c.args.sizes.0 c.args.sizes.1
    are0 (c.in_ok-copy.ensures.stays s are0) it c.in_ok-copy.ensures.drafts c.in_ok-copy.ensures.table c.in_ok-copy.ensures.table_too c.in_ok-copy.ensures.first_place c.in_ok-copy.ensures.second_place
    c.requires.sizes c.requires.room in
    ready.0.settles

pub append_copy_and_op-requires-clause-op : goal.append_copy_and_op-requires-clause-op
append_copy_and_op-requires-clause-op c =
    let some = c.requires.some in
    let s = some.0 in
    let half = some.1 in
    let are0 = some.2 in
    let it = some.3 in
    let old = c.args.self.now in
    let core = c.make_two_ready.new.self in
    let x = c.in_ok-copy.copy in
    let y = c.in_ok-copy.op in
    let ready = ready_in old core s c.args.now c.args.origin c.args.how half c.args.copy.now c.args.op.now x.draft.now y.draft.now x.place y.place x.table y.table x.size y.size c.args.sizes.0 c.args.sizes.1
    are0 (c.in_ok-copy.ensures.stays s are0) it c.in_ok-copy.ensures.drafts c.in_ok-copy.ensures.table c.in_ok-copy.ensures.table_too c.in_ok-copy.ensures.first_place c.in_ok-copy.ensures.second_place
    c.requires.sizes c.requires.room in
    ready.0.op

pub returns-clause-appended : goal.returns-clause-appended
returns-clause-appended c =
    on_ok c.append_copy_and_op.result c.append_copy_and_op.ensures.appended (λ done s half are0 it.
    let old = c.args.self.now in
    let core = c.make_two_ready.new.self in
    let x = c.in_ok-copy.copy in
    let y = c.in_ok-copy.op in
    let ready = ready_in old core s c.args.now c.args.origin c.args.how half c.args.copy.now c.args.op.now x.draft.now y.draft.now x.place y.place x.table y.table x.size y.size c.args.sizes.0 c.args.sizes.1
    are0 (c.in_ok-copy.ensures.stays s are0) it c.in_ok-copy.ensures.drafts c.in_ok-copy.ensures.table c.in_ok-copy.ensures.table_too c.in_ok-copy.ensures.first_place c.in_ok-copy.ensures.second_place
    c.requires.sizes c.requires.room in
    let new = c.append_copy_and_op.new.self in
    subst (λ (records : List Entry). Represents new (with_records s c.args.now records)) (ready.0.records ∙ ready.1)
    (subst (λ (time : ℕ). Represents new (with_records s time (entry_of x.draft.now x.place ∷ entry_of y.draft.now y.place ∷ []))) ready.0.at
    (done s (c.in_ok-copy.ensures.stays s are0) ready.0.may)))
