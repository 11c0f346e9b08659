use Rattle.std.proofs.Common.{◌≡◌, ◌≤◌, ◌∙◌, ap, sym, subst, length, All, List}
use Rattle.request_fields.specs.declared.clients.QueueName.{QueueName}
use Rattle.request_fields.specs.Requests.{LockSaid, IsQueueName}
use Rattle.request_fields.specs.declared.request.Request.TheVariants.{Lock}
use Rattle.reply_fields.specs.Granted.{HasShortNames}
use Rattle.broker_model.specs.Events as model
use Rattle.broker_model.specs.Tables.{granted, with_locks}
use Rattle.broker_events.specs.Replies.{IsLockReply}
use Rattle.group_tables.specs.Held.{HasLocks}
use Rattle.broker_core.proofs.GroupLemmas.{does_lock, lock_done, granted_short, granted_few}
use Rattle.broker_core.proofs.ReadLemmas.{carries_done, asked_by}
use Rattle.broker_core.proofs.queue_locks.lock_queues.Goals as goal

pub lock_reply-requires-clause-names : goal.lock_reply-requires-clause-names
lock_reply-requires-clause-names c =
    let some = c.requires.some in
    let rows = some.0.locks in
    let queues : All IsQueueName c.as_slice.result.now = subst (λ (l : List QueueName). All IsQueueName l) (sym c.as_slice.ensures) c.asked.invariant.queues in
    subst (λ (l : List QueueName). All HasShortNames l) (sym (c.as_slice-2.ensures.value ∙ c.in_ok-granted.ensures.granted rows some.1.locks))
    (granted_short c.args.now c.as_str-group.result.now c.as_str-client.result.now rows c.as_slice.result.now queues)

pub lock_reply-requires-clause-few : goal.lock_reply-requires-clause-few
lock_reply-requires-clause-few c =
    let some = c.requires.some in
    let rows = some.0.locks in
    let few : length c.as_slice.result.now ≤ 4096 = subst (λ (l : List QueueName). length l ≤ 4096) (sym c.as_slice.ensures) c.asked.invariant.few in
    subst (λ (l : List QueueName). length l ≤ 4096) (sym (c.as_slice-2.ensures.value ∙ c.in_ok-granted.ensures.granted rows some.1.locks))
    (granted_few c.args.now c.as_str-group.result.now c.as_str-client.result.now rows c.as_slice.result.now few)

pub returns-in-Ok-clause-carries : goal.returns-in-Ok-clause-carries
returns-in-Ok-clause-carries c link host =
    let old = c.args.parts.now in
    let l : LockSaid = c.args.asked.now in
    let groups = c.lock.new.self in
    let own_group = c.as_str-group.result.now in
    let own_client = c.as_str-client.result.now in
    let given : List QueueName = c.in_ok-granted.granted.items in
    let group : own_group ≡ l.group = c.as_str-group.ensures.value ∙ ap (λ (x : LockSaid). x.group) c.asked.view_is in
    let client : own_client ≡ l.client = c.as_str-client.ensures.value ∙ ap (λ (x : LockSaid). x.client) c.asked.view_is in
    let queues : c.as_slice.result.now ≡ l.queues = c.as_slice.ensures ∙ ap (λ (x : LockSaid). x.queues) c.asked.view_is in
    carries_done old (record old { groups = groups }) c.told.new.parts (asked_by link host c.args.now (Lock l)) (λ s. model.Locked (granted c.args.now l.group l.client s.locks l.queues))
    (λ s. record s { locks = with_locks c.args.now l.group l.client (granted c.args.now l.group l.client s.locks l.queues) s.locks }) c.told.result
    (does_lock old link host c.args.now l) c.requires.time c.told.ensures.moved
    (λ s are.
    let done = lock_done old groups s l c.args.now own_group own_client c.as_slice.result.now given are group client queues c.in_ok-granted.ensures.granted
    (λ rows has. subst (λ (g : List QueueName). HasLocks groups (with_locks c.args.now own_group own_client g rows)) c.as_slice-3.ensures.value (c.in-Ok.ensures.locked rows has))
    c.lock.ensures.offsets in (
      done.0,
      c.told.ensures.told (model.Locked (granted c.args.now l.group l.client s.locks l.queues))
          (subst (λ (g : List QueueName). IsLockReply c.in_ok-reply.reply g) (c.as_slice-2.ensures.value ∙ done.1) c.in_ok-reply.ensures),
    ))
