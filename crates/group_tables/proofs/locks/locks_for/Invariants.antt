use Rattle.std.proofs.Common.{◌≡◌, length, All}
use Rattle.group_tables.specs.Locks.{lock_from}
use Rattle.group_tables.proofs.locks.locks_for.Given as goal

abbrev pub invariant-loop : goal.invariant-loop
invariant-loop l = (length l.locks.items ≡ l.counter) × All (λ lock. lock ≡ lock_from l.client l.now) l.locks.items
