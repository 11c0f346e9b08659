use Rattle.std.proofs.Common.{◌∙◌, ap, sym, Option}
use Rattle.std.specs.Option.{option_map, option_to_list}
use Rattle.group_tables.specs.Locks.{lock_in, lock_row}
use Rattle.group_tables.specs.declared.locks.Lock.{Lock}
use Rattle.group_tables.proofs.LockLemmas.{rows_without_locks}
use Rattle.group_tables.proofs.groups.Groups.unlock_batch.Goals as goal

pub returns-clause-unlocked : goal.returns-clause-unlocked
returns-clause-unlocked c = λ rows has g q.
    rows_without_locks c.args.group.now c.args.client.now g q c.args.queues.now rows (lock_in c.args.self.now.slots g q.topic q.queue) (has g q)
    ∙ ap (λ (lock : Option Lock). option_to_list (option_map (lock_row g q.topic q.queue) lock)) (sym (c.unlock_all.ensures g q.topic q.queue))
