use Rattle.std.proofs.Common.{◌≡◌, ◌∙◌, ◌&&◌, ap, sym, subst, cond, ℕ, List, Option, Some}
use Rattle.std.specs.List.{list_any}
use Rattle.std.specs.Option.{option_map, option_to_list}
use Rattle.std.specs.Str.{bytes_eq}
use Rattle.group_tables.specs.Locks.{lock_in, lock_from, lock_row, names_queue}
use Rattle.group_tables.specs.declared.locks.Lock.{Lock}
use Rattle.group_tables.proofs.LockedLemmas.{IsApart, apart_distinct, rows_with_locks}
use Rattle.group_tables.proofs.TableLemmas.{on_ok}
use Rattle.group_tables.proofs.groups.Groups.lock.Goals as goal

pub returns-clause-locked : goal.returns-clause-locked
returns-clause-locked c =
    let queues = c.args.queues.now in
    let group = c.args.group.now in
    let own = c.args.self.now.slots in
    on_ok c.lock_all.result
    (λ (set : (g t : List ℕ) (q : ℕ) → lock_in c.lock_all.new.slots g t q
    ≡ cond (bytes_eq group g && list_any (names_queue t q) queues) (Some (lock_from c.args.client.now c.args.now)) (lock_in own g t q)) rows has g q.
    rows_with_locks c.args.now group c.args.client.now g q queues rows (lock_in own g q.topic q.queue) (subst IsApart c.requires.once (apart_distinct queues)) (has g q)
    ∙ ap (λ (lock : Option Lock). option_to_list (option_map (lock_row g q.topic q.queue) lock)) (sym (set g q.topic q.queue)))
    c.lock_all.ensures.locked
