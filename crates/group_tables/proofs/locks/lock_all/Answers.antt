use Rattle.std.proofs.Common.{◌≡◌, ◌∙◌, ◌&&◌, ℕ, List, true, ap, subst, is_some}
use Rattle.std.proofs.lemmas.Bool.{and_parts}
use Rattle.std.proofs.lemmas.Slice.Eq.{bytes_eq-Decides}
use Rattle.std.specs.List.{list_any}
use Rattle.std.specs.Option.{option_flatten}
use Rattle.std.specs.Str.{bytes_eq}
use Rattle.request_fields.specs.declared.clients.QueueName.{QueueName}
use Rattle.group_tables.specs.Table.{in_groups}
use Rattle.group_tables.specs.Locks.{lock_in, lock_from, names_queue}
use Rattle.group_tables.proofs.LockLemmas.{of_named, given_lock}
use Rattle.group_tables.proofs.locks.lock_all.Goals as goal

pub returns-clause-locked : goal.returns-clause-locked
returns-clause-locked c = λ g t q.
    let queues : List QueueName = c.args.queues.now in
    let lock = lock_from c.args.client.now c.args.now in
    let mid = c.make_slots.new.slots in
    let named = bytes_eq c.args.group.now g && list_any (names_queue t q) queues in
    ap option_flatten (c.put_locks.ensures lock c.in_ok-locks.ensures.each g t q)
    ∙ given_lock (in_groups mid g t q) (lock_in c.args.slots.now g t q) named lock
    (λ both.
    let parts = and_parts (bytes_eq c.args.group.now g) (list_any (names_queue t q) queues) both in
    subst (λ (l : List ℕ). is_some (in_groups mid l t q) ≡ true) ((bytes_eq-Decides c.args.group.now g).0 parts.0)
    (of_named (λ topic queue. is_some (in_groups mid c.args.group.now topic queue) ≡ true) t q queues c.in_ok-make_slots.ensures.there parts.1))
    (c.make_slots.ensures.same g t q)
