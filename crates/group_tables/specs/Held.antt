-- The locks that are held, and the rows that they equal.
use Rattle.std.specs.Prelude.{ℕ, List, Option}
use Rattle.broker_model.specs.Tables.{LockRow}
use Rattle.group_tables.specs.Locks.{lock_in, AreLocks}
use Rattle.group_tables.specs.declared.groups.Groups.{Groups}
use Rattle.group_tables.specs.declared.locks.Lock.{Lock}

-- the lock on this queue of the group
abbrev pub lock_of : Groups → List ℕ → List ℕ → ℕ → Option Lock
lock_of groups group topic queue = lock_in groups.slots group topic queue

-- the rows have for each queue of each group just the lock that it has
abbrev pub HasLocks : Groups → List LockRow → Type 0
HasLocks groups rows = AreLocks groups.slots rows
