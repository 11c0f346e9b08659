use Rattle.std.proofs.Common.{◌≡◌, ◌∙◌, sym, subst, not, filter, Bool, List}
use Rattle.std.proofs.lemmas.Result.{IfOk-weaker}
use Rattle.request_fields.specs.declared.clients.QueueName.{QueueName}
use Rattle.broker_model.specs.Tables.{LockRow, distinct_queues, granted}
use Rattle.group_tables.specs.Held.{HasLocks}
use Rattle.group_tables.specs.Locks.{keeps_off, lock_in}
use Rattle.group_tables.proofs.LockLemmas.{held_by_lock}
use Rattle.group_tables.proofs.LockedLemmas.{apart_filter, apart_distinct, distinct_apart}
use Rattle.group_tables.proofs.groups.Groups.granted.Goals as goal

pub returns-clause-granted : goal.returns-clause-granted
returns-clause-granted c =
    let own = c.args.self.now.slots in
    let group = c.args.group.now in
    let client = c.args.client.now in
    let queues = c.args.queues.now in
    IfOk-weaker c.grant.result (λ given. given.items ≡ filter (λ q. not (keeps_off c.args.now client (lock_in own group q.topic q.queue))) (distinct_queues queues))
    (λ given. (rows : List LockRow) → HasLocks c.args.self.now rows → given.items ≡ granted c.args.now group client rows queues)
    (λ given is rows has. is ∙ (λ i. filter (λ q. not (sym (held_by_lock c.args.now group client rows q (lock_in own group q.topic q.queue) (has group q)) i)) (distinct_queues queues))) c.grant.ensures

pub returns-clause-once : goal.returns-clause-once
returns-clause-once c =
    let free : QueueName → Bool = λ x. not (keeps_off c.args.now c.args.client.now (lock_in c.args.self.now.slots c.args.group.now x.topic x.queue)) in
    let queues = c.args.queues.now in
    IfOk-weaker c.grant.result (λ given. given.items ≡ filter free (distinct_queues queues)) (λ given. distinct_queues given.items ≡ given.items)
    (λ given is. subst (λ (l : List QueueName). distinct_queues l ≡ l) (sym is) (distinct_apart (filter free (distinct_queues queues)) (apart_filter free (distinct_queues queues) (apart_distinct queues)))) c.grant.ensures
