use Rattle.std.proofs.Common.{rules, ◌≡◌, ap, sym, ◌∙◌, subst, refl, ℕ, [], ◌∷◌, Bool, Some, max}
use Rattle.std.specs.Option.{unwrap_or}
use Rattle.record_codec.specs.Entry.{Entry}
use Rattle.record_codec.specs.Drafts.{entry_of}
use Rattle.queue_view.specs.Tables.{number_of}
use Rattle.broker_model.specs.Answers.{append_answer, reply_with}
use Rattle.broker_model.specs.Step.{with_made, with_records}
use Rattle.broker_events.specs.Steps.{Says}
use Rattle.broker_events.specs.Replies.{IsReplyOf}
use Rattle.reply_fields.specs.Parts.{ReplyParts}
use Rattle.core_log.specs.declared.parts.Parts.{Parts}
use Rattle.core_log.specs.Represents.{Represents}
use Rattle.client_tables.specs.declared.topics.Topics.{Topics}
use Rattle.reply_fields.specs.Sent.{sent_fields}
use Rattle.broker_core.specs.Stores.{stored_answer, IsTarget}
use Rattle.core_log.proofs.StoreLemmas.{found_place, is_next_record}
use Rattle.broker_core.proofs.store.store.Goals as goal

pub append_in-requires-clause-some : goal.append_in-requires-clause-some
append_in-requires-clause-some c =
    let s = c.requires.some.0 in
    let core = c.make_ready.new.self in
    let d = c.args.draft.now in
    let are = c.in_ok-table.ensures.stays s c.requires.some.1 in
    let others = c.in_ok-table.ensures.others in
    let mine : number_of core.queues d.topic d.queue ≡ Some c.in_ok-table.table = search rules in
    let found = found_place c.args.parts.now core s c.args.target.now.kind d c.next_place-place.result c.in_ok-table.table c.args.size c.args.now are (ap (λ (x : Parts). x.setup) others) (ap (λ (x : Parts). x.pending) others)
    (ap (λ (x : Parts). x.now) others) c.requires.storable mine c.next_place-place.ensures.queue_offset c.next_place-place.ensures.offset (c.next_place-place.ensures.store ∙ c.max.ensures) c.requires.size c.requires.low c.requires.now in
    (s, are, found.1)

pub append_in-requires-clause-encodable : goal.append_in-requires-clause-encodable
append_in-requires-clause-encodable c =
    let s = c.requires.some.0 in
    let core = c.make_ready.new.self in
    let d = c.args.draft.now in
    let are = c.in_ok-table.ensures.stays s c.requires.some.1 in
    let others = c.in_ok-table.ensures.others in
    let mine : number_of core.queues d.topic d.queue ≡ Some c.in_ok-table.table = search rules in
    let found = found_place c.args.parts.now core s c.args.target.now.kind d c.next_place-place.result c.in_ok-table.table c.args.size c.args.now are (ap (λ (x : Parts). x.setup) others) (ap (λ (x : Parts). x.pending) others)
    (ap (λ (x : Parts). x.now) others) c.requires.storable mine c.next_place-place.ensures.queue_offset c.next_place-place.ensures.offset (c.next_place-place.ensures.store ∙ c.max.ensures) c.requires.size c.requires.low c.requires.now in
    found.0

pub returns-in-Ok-clause-stored : goal.returns-in-Ok-clause-stored
returns-in-Ok-clause-stored c s are0 =
    let core = c.make_ready.new.self in
    let d = c.args.draft.now in
    let p = c.next_place-place.result in
    let are = c.in_ok-table.ensures.stays s are0 in
    let others = c.in_ok-table.ensures.others in
    let mine : number_of core.queues d.topic d.queue ≡ Some c.in_ok-table.table = search rules in
    let found = found_place c.args.parts.now core s c.args.target.now.kind d p c.in_ok-table.table c.args.size c.args.now are (ap (λ (x : Parts). x.setup) others) (ap (λ (x : Parts). x.pending) others)
    (ap (λ (x : Parts). x.now) others) c.requires.storable mine c.next_place-place.ensures.queue_offset c.next_place-place.ensures.offset (c.next_place-place.ensures.store ∙ c.max.ensures) c.requires.size c.requires.low c.requires.now in
    let time = max c.args.now s.now in
    let is_record = is_next_record s d p time found.1.next found.2 in
    let told = reply_with (sent_fields d.store_host p.offset c.args.target.now.queue p.queue_offset) [] in
    let is_reply : IsReplyOf c.sent-reply.result told =
    subst (λ (r : ReplyParts). IsReplyOf r told) (sym c.sent-reply.ensures) (record { code = refl; remark = refl; ext = refl; body = tt }) in
    let target = c.args.target.now in
    let n = unwrap_or target.known target.made in
    record {
      answer = subst (λ (r : Entry). stored_answer s d target.queue r c.answer-said.result) is_record
          (subst (λ (b : Bool). Says c.answer-said.result (append_answer s b told 1)) c.waits.ensures (c.answer-said.ensures s told are is_reply));
      state = subst (λ (r : Entry). Represents c.append_in.new.parts (with_records (with_made s target.topic.now n) time (r ∷ []))) is_record
          (subst (λ (t : ℕ). Represents c.append_in.new.parts (with_records (with_made s target.topic.now n) t (entry_of d p ∷ []))) found.2 (c.in-Ok.ensures.appended s are found.1));
    }

pub append_in-requires-clause-target : goal.append_in-requires-clause-target
append_in-requires-clause-target c =
    subst (λ (t : Topics). IsTarget t c.args.target.now.topic.now c.args.target.now.known c.args.target.now.made) (sym (ap (λ (x : Parts). x.topics) c.in_ok-table.ensures.others)) c.requires.target

pub append_in-requires-clause-kept : goal.append_in-requires-clause-kept
append_in-requires-clause-kept c = c.requires.storable.kept c.next_place-place.result

pub answer-said-requires-clause-some : goal.answer-said-requires-clause-some
answer-said-requires-clause-some c =
    let it = c.requires.some in
    (it.0, c.in_ok-table.ensures.stays it.0 it.1)

pub returns-in-Err-clause-stays : goal.returns-in-Err-clause-stays
returns-in-Err-clause-stays c s are = c.in-Err.ensures.stays s (c.in_ok-table.ensures.stays s are)
