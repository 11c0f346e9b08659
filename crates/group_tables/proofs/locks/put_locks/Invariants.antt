use Rattle.std.proofs.Common.{◌≡◌, ◌&&◌, ◌+◌, ℕ, List, take, length, cond, Some, All}
use Rattle.std.specs.Option.{option_and}
use Rattle.std.specs.List.{list_any}
use Rattle.std.specs.Str.{bytes_eq}
use Rattle.group_tables.specs.Table.{in_groups}
use Rattle.group_tables.specs.Locks.{names_queue}
use Rattle.group_tables.specs.declared.locks.Lock.{Lock}
use Rattle.group_tables.proofs.locks.put_locks.Given as goal

abbrev pub invariant-loop-queue : goal.invariant-loop-queue
invariant-loop-queue l = (length l.left.items + l.queue-index ≡ length l.queues)
    × ((held : Lock) → All (λ lock. lock ≡ held) l.initial.left.items → All (λ lock. lock ≡ held) l.left.items × ((g t : List ℕ) (q : ℕ) → in_groups l.slots g t q
    ≡ cond (bytes_eq l.group g && list_any (names_queue t q) (take l.queue-index l.queues)) (option_and (in_groups l.initial.slots g t q) (Some (Some held))) (in_groups l.initial.slots g t q)))
