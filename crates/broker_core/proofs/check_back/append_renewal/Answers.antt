use Rattle.std.proofs.Common.{rules, ◌≡◌, ◌∙◌, ap, subst, ℕ, [], ◌∷◌, Some}
use Rattle.record_codec.specs.Drafts.{entry_of}
use Rattle.record_codec.specs.Entry.{Entry}
use Rattle.log_model.specs.Numbered.{next_records}
use Rattle.queue_view.specs.Tables.{number_of}
use Rattle.broker_model.specs.Answers.{asked_link}
use Rattle.broker_model.specs.Step.{with_records}
use Rattle.core_log.specs.Represents.{Represents}
use Rattle.broker_core.proofs.CheckLemmas.{finds_room}
use Rattle.broker_core.proofs.RenewalPlaces.{number_is, of_origin, ready}
use Rattle.core_log.proofs.StoreLemmas.{is_next_record}
use Rattle.broker_core.proofs.check_back.append_renewal.Goals as goal

pub ask_for-requires : goal.ask_for-requires
ask_for-requires c =
    let it = c.requires.some in
    let core = c.make_ready.new.self in
    let d = c.args.draft.now in
    let mine : number_of core.queues d.topic d.queue ≡ Some c.in_ok-table.table = search rules in
    let is = ready core it.0 c.args.now c.args.origin it.1 d c.next_place-place.result c.in_ok-table.table c.args.size (c.in_ok-table.ensures.stays it.0 it.2) it.3 mine c.next_place-place.ensures.queue_offset c.next_place-place.ensures.offset c.next_place-place.ensures.store c.requires.size (c.requires.room it.0 it.2) in
    (it.0.setup.segment, is.half)

pub append_whole-requires-clause-some : goal.append_whole-requires-clause-some
append_whole-requires-clause-some c =
    let it = c.requires.some in
    let core = c.make_ready.new.self in
    let d = c.args.draft.now in
    let are = c.in_ok-table.ensures.stays it.0 it.2 in
    let mine : number_of core.queues d.topic d.queue ≡ Some c.in_ok-table.table = search rules in
    let is = ready core it.0 c.args.now c.args.origin it.1 d c.next_place-place.result c.in_ok-table.table c.args.size are it.3 mine c.next_place-place.ensures.queue_offset c.next_place-place.ensures.offset c.next_place-place.ensures.store c.requires.size (c.requires.room it.0 it.2) in
    (it.0, are, is.may)

pub append_whole-requires-clause-encodable : goal.append_whole-requires-clause-encodable
append_whole-requires-clause-encodable c =
    let it = c.requires.some in
    let core = c.make_ready.new.self in
    let d = c.args.draft.now in
    let are = c.in_ok-table.ensures.stays it.0 it.2 in
    let mine : number_of core.queues d.topic d.queue ≡ Some c.in_ok-table.table = search rules in
    (ready core it.0 c.args.now c.args.origin it.1 d c.next_place-place.result c.in_ok-table.table c.args.size are it.3 mine c.next_place-place.ensures.queue_offset c.next_place-place.ensures.offset c.next_place-place.ensures.store c.requires.size (c.requires.room it.0 it.2)).written

pub append_whole-requires-clause-short : goal.append_whole-requires-clause-short
append_whole-requires-clause-short c =
    let it = c.requires.some in
    let core = c.make_ready.new.self in
    let d = c.args.draft.now in
    let are = c.in_ok-table.ensures.stays it.0 it.2 in
    let mine : number_of core.queues d.topic d.queue ≡ Some c.in_ok-table.table = search rules in
    (ready core it.0 c.args.now c.args.origin it.1 d c.next_place-place.result c.in_ok-table.table c.args.size are it.3 mine c.next_place-place.ensures.queue_offset c.next_place-place.ensures.offset c.next_place-place.ensures.store c.requires.size (c.requires.room it.0 it.2)).short

pub append_whole-requires-clause-half : goal.append_whole-requires-clause-half
append_whole-requires-clause-half c =
    let it = c.requires.some in
    of_origin c.args.parts.now it.0 c.args.now c.args.origin it.1 c.args.draft.now it.2 it.3 c.next_place-place.result

pub returns-in-Err-clause-stays : goal.returns-in-Err-clause-stays
returns-in-Err-clause-stays c s are = c.in-Err.ensures.stays s (c.in_ok-table.ensures.stays s are)

pub returns-in-Ok-clause-checked : goal.returns-in-Ok-clause-checked
returns-in-Ok-clause-checked c s first are0 by =
    let core = c.make_ready.new.self in
    let d = c.args.draft.now in
    let p = c.next_place-place.result in
    let now = c.args.now in
    let new = c.append_whole.new.parts in
    let are = c.in_ok-table.ensures.stays s are0 in
    let mine : number_of core.queues d.topic d.queue ≡ Some c.in_ok-table.table = search rules in
    let is = ready core s now c.args.origin first d p c.in_ok-table.table c.args.size are by mine c.next_place-place.ensures.queue_offset c.next_place-place.ensures.offset c.next_place-place.ensures.store c.requires.size (c.requires.room s are0) in
    let has = c.in-Ok.ensures.appended s are is.may in
    let record_is = is_next_record s d p now is.may.next c.next_place-place.ensures.store in
    finds_room s now c.args.origin c.end-number.result (next_records s.setup.segment now s.log (d ∷ [])) c.in_ok-ask.ask new (c.requires.room s are0)
    (number_is core s c.end-number.result are c.end-number.ensures.value)
    (c.in_ok-ask.ensures s are ∙ ap (λ (e : Entry). asked_link s e) record_is)
    (subst (λ (e : Entry). Represents new (with_records s now (e ∷ []))) record_is
    (subst (λ (n : ℕ). Represents new (with_records s n (entry_of d p ∷ []))) c.next_place-place.ensures.store has))
