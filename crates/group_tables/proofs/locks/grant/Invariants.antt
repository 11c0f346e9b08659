use Rattle.std.proofs.Common.{◌≡◌, ◌&&◌, ◌==◌, ℕ, List, take, filter, not}
use Rattle.std.specs.Borrow.{Bor}
use Rattle.std.specs.List.{list_any}
use Rattle.std.specs.Str.{bytes_eq}
use Rattle.std.specs.HashSet.{contains}
use Rattle.broker_model.specs.Tables.{distinct_queues}
use Rattle.group_tables.specs.Locks.{lock_in, keeps_off, names_queue}
use Rattle.group_tables.proofs.locks.grant.Given as goal

abbrev pub invariant-loop-queue : goal.invariant-loop-queue
invariant-loop-queue l = ((k : Bor (List ℕ) × ℕ) → contains (λ x y. bytes_eq x.0.now y.0.now && (x.1 == y.1)) l.seen k ≡ list_any (names_queue k.0.now k.1) (take l.queue-index l.queues))
    × (l.granted.items ≡ filter (λ q. not (keeps_off l.now l.client (lock_in l.slots l.group q.topic q.queue))) (distinct_queues (take l.queue-index l.queues)))
