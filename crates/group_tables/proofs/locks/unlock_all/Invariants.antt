use Rattle.std.proofs.Common.{◌≡◌, ◌&&◌, ℕ, List, take, cond}
use Rattle.std.specs.List.{list_any}
use Rattle.std.specs.Str.{bytes_eq}
use Rattle.group_tables.specs.Locks.{lock_in, without_own, names_queue}
use Rattle.group_tables.proofs.locks.unlock_all.Given as goal

abbrev pub invariant-loop-queue : goal.invariant-loop-queue
invariant-loop-queue l = (g t : List ℕ) (q : ℕ) → lock_in l.slots g t q
    ≡ cond (bytes_eq l.group g && list_any (names_queue t q) (take l.queue-index l.queues)) (without_own l.client (lock_in l.initial.slots g t q)) (lock_in l.initial.slots g t q)
