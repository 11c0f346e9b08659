use Rattle.std.proofs.Common.{◌≡◌, ℕ, List, take, is_some, true, All}
use Rattle.group_tables.specs.Table.{in_groups}
use Rattle.group_tables.specs.Locks.{lock_in}
use Rattle.group_tables.proofs.locks.make_slots.Given as goal

abbrev pub invariant-loop-queue : goal.invariant-loop-queue
invariant-loop-queue l = ((g t : List ℕ) (q : ℕ) → lock_in l.slots g t q ≡ lock_in l.initial.slots g t q)
    × All (λ q. is_some (in_groups l.slots l.group q.topic q.queue) ≡ true) (take l.queue-index l.queues)
