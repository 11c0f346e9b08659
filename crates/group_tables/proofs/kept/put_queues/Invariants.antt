use Rattle.std.proofs.Common.{◌≡◌, ℕ, List, All, ◌&&◌, Some, nat_eq}
use Rattle.std.specs.HashMap.{get}
use Rattle.std.specs.Option.{option_or}
use Rattle.std.specs.Str.{bytes_eq}
use Rattle.broker_model.specs.Tables.{offset_in}
use Rattle.group_tables.specs.Offsets.{IsOfQueues}
use Rattle.group_tables.proofs.KeptLemmas.{of_queues, Added}
use Rattle.group_tables.proofs.kept.put_queues.Given as goal

abbrev pub invariant-loop-queue : goal.invariant-loop-queue
invariant-loop-queue l = record {
  found : (g t : List ℕ) (q : ℕ)
      → option_or (offset_in l.rows.items g t q) (of_queues (bytes_eq l.group g && bytes_eq l.topic t) q l.queue-iterator)
      ≡ option_or (offset_in l.initial.rows.items g t q) (of_queues (bytes_eq l.group g && bytes_eq l.topic t) q l.queues.entries);
  each : Added (IsOfQueues l.group l.topic l.queues) l.initial.rows.items l.rows.items;
  left : All (λ e. get nat_eq l.queues e.0 ≡ Some e.1) l.queue-iterator;
}
