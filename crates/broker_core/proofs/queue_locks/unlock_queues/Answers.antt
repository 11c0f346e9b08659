use Rattle.std.proofs.Common.{◌≡◌, ◌∙◌, ap, codes}
use Rattle.request_fields.specs.Requests.{LockSaid}
use Rattle.request_fields.specs.declared.request.Request.TheVariants.{Unlock}
use Rattle.broker_model.specs.Events as model
use Rattle.broker_model.specs.Tables.{without_locks}
use Rattle.broker_model.specs.Answers.{done_reply}
use Rattle.broker_core.proofs.AnswerLemmas.{is_plain_reply}
use Rattle.broker_core.proofs.GroupLemmas.{does_unlock, unlock_done}
use Rattle.broker_core.proofs.ReadLemmas.{carries_done, asked_by}
use Rattle.broker_core.proofs.queue_locks.unlock_queues.Goals as goal

pub returns-clause-carries : goal.returns-clause-carries
returns-clause-carries c link host =
    let old = c.args.parts.now in
    let l : LockSaid = c.args.asked.now in
    let group : c.as_str.result.now ≡ l.group = c.as_str.ensures.value ∙ ap (λ (x : LockSaid). x.group) c.asked.view_is in
    let client : c.as_str-2.result.now ≡ l.client = c.as_str-2.ensures.value ∙ ap (λ (x : LockSaid). x.client) c.asked.view_is in
    let queues : c.as_slice.result.now ≡ l.queues = c.as_slice.ensures ∙ ap (λ (x : LockSaid). x.queues) c.asked.view_is in
    carries_done old (record old { groups = c.unlock_batch.new.self }) c.told.new.parts (asked_by link host c.args.now (Unlock l)) (λ s. model.Replies done_reply)
    (λ s. record s { locks = without_locks l.group l.client l.queues s.locks }) c.told.result (does_unlock old link host c.args.now l) c.requires.time c.told.ensures.moved
    (λ s are. (
      unlock_done old c.unlock_batch.new.self s l c.as_str.result.now c.as_str-2.result.now c.as_slice.result.now are group client queues c.unlock_batch.ensures.unlocked c.unlock_batch.ensures.offsets,
      c.told.ensures.told (model.Replies done_reply) (is_plain_reply c.in_ok-reply.reply 0 (codes "") c.in_ok-reply.ensures),
    ))
