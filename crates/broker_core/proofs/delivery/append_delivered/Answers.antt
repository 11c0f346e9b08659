use Rattle.std.proofs.Common.{rules, ◌≡◌, ◌∙◌, ap, sym, subst, ℕ, ◌+◌, ◌^◌, ◌≤◌, [], ◌∷◌, Some, length}
use Rattle.std.proofs.lemmas.Bool.{le-ltb}
use Rattle.record_codec.specs.Entry.{Entry}
use Rattle.record_codec.specs.Drafts.{entry_of}
use Rattle.log_model.specs.Log.{place_after}
use Rattle.queue_view.specs.Tables.{number_of}
use Rattle.queue_view.proofs.NumberedLemmas.{number_within}
use Rattle.broker_model.specs.Step.{with_records}
use Rattle.broker_events.specs.declared.said.Said.TheVariants as said
use Rattle.pending_log.specs.Parts.{PendingPart}
use Rattle.core_log.specs.declared.parts.Parts.{Parts}
use Rattle.core_log.specs.Represents.{Represents}
use Rattle.core_log.proofs.StoreLemmas.{on_err, is_next_record}
use Rattle.broker_core.proofs.RoomLemmas.{past_is, over_is}
use Rattle.broker_core.proofs.DueLemmas.{due_is_next}
use Rattle.broker_core.proofs.DeliverLemmas.{finds_room}
use Rattle.broker_core.proofs.MessageLemmas.{delivery_may, delivery_may_be_written, of_kind, of_message, few_copied}
use Rattle.broker_core.proofs.delivery.append_delivered.Goals as goal

pub next_place-place-requires : goal.next_place-place-requires
next_place-place-requires c =
    let core = c.make_ready.new.self in
    let d = c.args.draft.now in
    let mine : number_of core.queues d.topic d.queue ≡ Some c.in_ok-table.table = search rules in
    number_within core.queues d.topic d.queue c.in_ok-table.table mine

pub append_delivery-requires-clause-some : goal.append_delivery-requires-clause-some
append_delivery-requires-clause-some c =
    let it = c.requires.due in
    let core = c.make_ready.new.self in
    let d = c.args.draft.now in
    let are = c.in_ok-table.ensures.stays it.0 it.2 in
    let pending = ap (λ (x : Parts). x.pending) c.in_ok-table.ensures.others in
    let mine : number_of core.queues d.topic d.queue ≡ Some c.in_ok-table.table = search rules in
    let low = subst (λ (x : PendingPart). place_after x.segment x.end c.args.size + c.args.size ≤ 2 ^ 62) (sym pending) c.requires.low in (
      it.0,
      are,
      delivery_may core it.0 c.args.now c.args.level c.args.count c.args.size c.in_ok-table.table it.1 d c.next_place-place.result are it.3 mine c.next_place-place.ensures.queue_offset c.next_place-place.ensures.offset
          c.next_place-place.ensures.store c.requires.size low,
    )

pub append_delivery-requires-clause-encodable : goal.append_delivery-requires-clause-encodable
append_delivery-requires-clause-encodable c =
    let it = c.requires.due in
    let core = c.make_ready.new.self in
    let d = c.args.draft.now in
    let are = c.in_ok-table.ensures.stays it.0 it.2 in
    let pending = ap (λ (x : Parts). x.pending) c.in_ok-table.ensures.others in
    let mine : number_of core.queues d.topic d.queue ≡ Some c.in_ok-table.table = search rules in
    let low = subst (λ (x : PendingPart). place_after x.segment x.end c.args.size + c.args.size ≤ 2 ^ 62) (sym pending) c.requires.low in
    delivery_may_be_written core it.0 c.args.now c.args.level c.args.count c.args.size c.in_ok-table.table it.1 d c.next_place-place.result are it.3 mine c.next_place-place.ensures.queue_offset c.next_place-place.ensures.offset
    c.next_place-place.ensures.store c.requires.size low

pub append_delivery-requires-clause-first : goal.append_delivery-requires-clause-first
append_delivery-requires-clause-first c = let it = c.requires.due in (due_is_next it.0.log it.0.dispatched c.args.now c.args.level it.1 it.3.due).0.0

pub append_delivery-requires-clause-last : goal.append_delivery-requires-clause-last
append_delivery-requires-clause-last c = let it = c.requires.due in (due_is_next it.0.log it.0.dispatched c.args.now c.args.level it.1 it.3.due).0.1

pub append_delivery-requires-clause-copy : goal.append_delivery-requires-clause-copy
append_delivery-requires-clause-copy c =
    let it = c.requires.due in
    of_kind c.make_ready.new.self it.0 c.args.now c.args.level c.args.count it.1 c.args.draft.now c.next_place-place.result (c.in_ok-table.ensures.stays it.0 it.2) it.3

pub append_delivery-requires-clause-message : goal.append_delivery-requires-clause-message
append_delivery-requires-clause-message c =
    let it = c.requires.due in
    of_message c.make_ready.new.self it.0 c.args.now c.args.level c.args.count it.1 c.args.draft.now c.next_place-place.result (c.in_ok-table.ensures.stays it.0 it.2) it.3

pub append_delivery-requires-clause-few : goal.append_delivery-requires-clause-few
append_delivery-requires-clause-few c l there =
    let it = c.requires.due in
    let next = due_is_next it.0.log it.0.dispatched c.args.now c.args.level it.1 it.3.due in
    few_copied c.make_ready.new.self it.0 c.args.level it.1 (c.in_ok-table.ensures.stays it.0 it.2) next.1 l next.0.0 there

pub returns-in_err-append_delivery-clause-stays : goal.returns-in_err-append_delivery-clause-stays
returns-in_err-append_delivery-clause-stays c =
    on_err c.from_residual-in_err-append_delivery.result (λ s are. subst (λ (core : Parts). Represents core s) (sym c.in_err-append_delivery.ensures.same) (c.in_ok-table.ensures.stays s are))

pub returns-clause-delivered : goal.returns-clause-delivered
returns-clause-delivered c s r are0 due =
    let old = c.args.parts.now in
    let core = c.make_ready.new.self in
    let d = c.args.draft.now in
    let p = c.next_place-place.result in
    let size = c.args.size in
    let are = c.in_ok-table.ensures.stays s are0 in
    let pending = ap (λ (x : Parts). x.pending) c.in_ok-table.ensures.others in
    let mine : number_of core.queues d.topic d.queue ≡ Some c.in_ok-table.table = search rules in
    let low = subst (λ (x : PendingPart). place_after x.segment x.end size + size ≤ 2 ^ 62) (sym pending) c.requires.low in
    let may = delivery_may core s c.args.now c.args.level c.args.count size c.in_ok-table.table r d p are due mine c.next_place-place.ensures.queue_offset c.next_place-place.ensures.offset c.next_place-place.ensures.store c.requires.size low in
    let is_record = is_next_record s d p c.args.now may.next c.next_place-place.ensures.store in
    let has = c.in_ok-append_delivery.ensures.appended s are may in
    let end = place_after old.pending.segment old.pending.end size + size in
    let all = length old.pending.bytes + size in
    finds_room s d c.args.now c.args.level c.args.count c.append_delivery.new.self
    (sym (past_is old s d [] 0 0 c.args.now said.LogEnd old size are0 c.requires.size) ∙ le-ltb (2 ^ 62) end c.requires.low)
    (sym (over_is old s d [] 0 0 c.args.now said.LogEnd old size are0 c.requires.size) ∙ le-ltb 67108864 all c.requires.short)
    (subst (λ (e : Entry). Represents c.append_delivery.new.self (with_records s c.args.now (e ∷ []))) is_record
    (subst (λ (n : ℕ). Represents c.append_delivery.new.self (with_records s n (entry_of d p ∷ []))) c.next_place-place.ensures.store has))
