-- Which client of a group has which queue for itself, and the rows that this equals.
use Rattle.std.specs.Prelude.{◌≡◌, ℕ, ◌==◌, ◌&&◌, Bool, false, not, List, filter, String}
use Rattle.std.specs.Prelude.{Option, Some, None, option_map, option_to_list, if◌then◌else◌}
use Rattle.std.specs.Option.{option_flatten}
use Rattle.std.specs.HashMap.{HashMap}
use Rattle.std.specs.Str.{bytes_eq}
use Rattle.request_fields.specs.declared.clients.QueueName.{QueueName}
use Rattle.broker_model.specs.Tables.{LockRow, is_lock_of, is_live}
use Rattle.group_tables.specs.Table.{in_groups}
use Rattle.group_tables.specs.declared.locks.Lock.{Lock}

-- the lock on this queue of the group
abbrev pub lock_in : {A S T U : Type 0} → HashMap (String A) (HashMap (String A) (HashMap ℕ (Option Lock) S) T) U → List ℕ → List ℕ → ℕ
    → Option Lock
lock_in slots group topic queue = option_flatten (in_groups slots group topic queue)

-- the lock is another client's, and lasts
abbrev pub keeps_off : ℕ → List ℕ → Option Lock → Bool
keeps_off now client None = false
keeps_off now client (Some lock) = not (bytes_eq lock.client client) && is_live now lock.renewed

-- the lock, if it is another client's
abbrev pub without_own : List ℕ → Option Lock → Option Lock
without_own client None = None
without_own client (Some lock) = if bytes_eq lock.client client then None else Some lock

-- the lock of a client that asked at this time
abbrev pub lock_from : List ℕ → ℕ → Lock
lock_from client now = record { client = client; renewed = now }

-- the name is of this queue, whatever the name of its broker
abbrev pub names_queue : List ℕ → ℕ → QueueName → Bool
names_queue topic queue name = bytes_eq name.topic topic && (name.queue == queue)

-- the row of this lock
abbrev pub lock_row : List ℕ → List ℕ → ℕ → Lock → LockRow
lock_row group topic queue lock = record { group = group; topic = topic; queue = queue; client = lock.client; renewed = lock.renewed }

-- the rows have for each queue of each group just the lock that it has
abbrev pub AreLocks : {A S T U : Type 0} → HashMap (String A) (HashMap (String A) (HashMap ℕ (Option Lock) S) T) U → List LockRow → Type 0
AreLocks slots rows = (group : List ℕ) (q : QueueName)
    → filter (is_lock_of group q) rows ≡ option_to_list (option_map (lock_row group q.topic q.queue) (lock_in slots group q.topic q.queue))
