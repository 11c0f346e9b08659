-- The tables of topics, stored offsets and locks, which are not in the log. Each is the plain list of its rows.
use Rattle.std.specs.Prelude.{ℕ, ◌+◌, ◌==◌, ◌&&◌, not, nat_le, max, List, [], ◌∷◌, ◌++◌, map}
use Rattle.std.specs.Prelude.{filter, find, Bool, Option, option_map, if◌then◌else◌}
use Rattle.std.specs.List.{list_any}
use Rattle.std.specs.Str.{bytes_eq}
use Rattle.request_fields.specs.declared.clients.QueueName.{QueueName}

-- ---- topics

-- a topic of clients, and how many queues it has
pub record TopicRow : Type 0 where
  pub topic : List ℕ
  pub queues : ℕ

-- how many queues a topic has, where it is known
abbrev pub queues_in : List TopicRow → List ℕ → Option ℕ
queues_in rows topic = option_map (λ row. row.queues) (find (λ row. bytes_eq row.topic topic) rows)

-- with this topic, which has at least n queues then
abbrev pub with_topic : List ℕ → ℕ → List TopicRow → List TopicRow
with_topic topic n [] = record { topic = topic; queues = n } ∷ []
with_topic topic n (row ∷ rows) =
    if bytes_eq row.topic topic then record { topic = row.topic; queues = max row.queues n } ∷ rows else row ∷ with_topic topic n rows

-- ---- stored offsets

-- the offset that a group stored for a queue
pub record OffsetRow : Type 0 where
  pub group : List ℕ
  pub topic : List ℕ
  pub queue : ℕ
  pub offset : ℕ

-- the row is that of this group and queue
abbrev pub is_row_of : List ℕ → List ℕ → ℕ → OffsetRow → Bool
is_row_of group topic queue row = bytes_eq row.group group && bytes_eq row.topic topic && (row.queue == queue)

-- the offset that a group stored for a queue, if any
abbrev pub offset_in : List OffsetRow → List ℕ → List ℕ → ℕ → Option ℕ
offset_in rows group topic queue = option_map (λ row. row.offset) (find (is_row_of group topic queue) rows)

-- with this row, and no other of its group and queue
abbrev pub with_offset : OffsetRow → List OffsetRow → List OffsetRow
with_offset row rows = row ∷ filter (λ other. not (is_row_of row.group row.topic row.queue other)) rows

-- ---- locks

-- a queue that a client of a group has for itself, and the reading of the clock when it last asked for it
pub record LockRow : Type 0 where
  pub group : List ℕ
  pub topic : List ℕ
  pub queue : ℕ
  pub client : List ℕ
  pub renewed : ℕ

-- the lock is on this queue, whatever the name of its broker, and of this group
abbrev pub is_lock_of : List ℕ → QueueName → LockRow → Bool
is_lock_of group q row = bytes_eq row.group group && bytes_eq row.topic q.topic && (row.queue == q.queue)

-- A lock that was renewed at one reading of the clock lasts at another: they are at most 60,000 ms apart. A lock from further
-- ahead was renewed before the clock was set back, and would last until the clock is there again.
abbrev pub is_live : (now renewed : ℕ) → Bool
is_live now renewed = nat_le now (renewed + 60000) && nat_le renewed (now + 60000)

-- the lock is another client's, and lasts
abbrev pub is_foreign : ℕ → List ℕ → LockRow → Bool
is_foreign now client row = not (bytes_eq row.client client) && is_live now row.renewed

-- another client of the group holds the queue
abbrev pub is_held_by_other : ℕ → List ℕ → List ℕ → List LockRow → QueueName → Bool
is_held_by_other now group client rows q = list_any (λ row. is_lock_of group q row && is_foreign now client row) rows

-- the same queue, whatever the name of its broker
abbrev pub is_same_queue : QueueName → QueueName → Bool
is_same_queue q other = bytes_eq other.topic q.topic && (other.queue == q.queue)

-- each queue once, as it is first named
abbrev pub distinct_queues : List QueueName → List QueueName
distinct_queues [] = []
distinct_queues (q ∷ queues) = q ∷ filter (λ other. not (is_same_queue q other)) (distinct_queues queues)

-- those of the queues that the client gets: free ones, its own, and those whose lock expired
abbrev pub granted : ℕ → List ℕ → List ℕ → List LockRow → List QueueName → List QueueName
granted now group client rows queues = filter (λ q. not (is_held_by_other now group client rows q)) (distinct_queues queues)

-- the lock of a client on a queue from this time on
abbrev pub lock_at : ℕ → List ℕ → List ℕ → QueueName → LockRow
lock_at now group client q = record { group = group; topic = q.topic; queue = q.queue; client = client; renewed = now }

-- the locks of the group on none of these queues
abbrev pub without_queues : List ℕ → List QueueName → List LockRow → List LockRow
without_queues group queues rows = filter (λ row. not (list_any (λ q. is_lock_of group q row) queues)) rows

-- the locks once the client got these queues
abbrev pub with_locks : ℕ → List ℕ → List ℕ → List QueueName → List LockRow → List LockRow
with_locks now group client queues rows = map (lock_at now group client) queues ++ without_queues group queues rows

-- the locks without those of the client on these queues
abbrev pub without_locks : List ℕ → List ℕ → List QueueName → List LockRow → List LockRow
without_locks group client queues rows =
    filter (λ row. not (bytes_eq row.client client && list_any (λ q. is_lock_of group q row) queues)) rows
