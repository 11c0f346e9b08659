use Rattle.std.proofs.Common.{◌≡◌, ℕ, List, All, Some}
use Rattle.std.specs.HashMap.{get}
use Rattle.std.specs.Option.{option_or}
use Rattle.std.specs.Str.{bytes_eq}
use Rattle.std.specs.String.{string_eq}
use Rattle.broker_model.specs.Tables.{offset_in}
use Rattle.group_tables.specs.Table.{in_queues}
use Rattle.group_tables.specs.Offsets.{IsOfTopics}
use Rattle.group_tables.proofs.KeptLemmas.{of_names, AreApart, Added}
use Rattle.group_tables.proofs.kept.put_topics.Given as goal

abbrev pub invariant-loop-topic : goal.invariant-loop-topic
invariant-loop-topic l = record {
  found : (g t : List ℕ) (q : ℕ)
      → option_or (offset_in l.rows.items g t q) (of_names (λ queues. in_queues queues q) (bytes_eq l.group g) t l.topic-iterator)
      ≡ option_or (offset_in l.initial.rows.items g t q) (of_names (λ queues. in_queues queues q) (bytes_eq l.group g) t l.topics.entries);
  apart : AreApart l.topic-iterator;
  each : Added (IsOfTopics l.group l.topics) l.initial.rows.items l.rows.items;
  left : All (λ e. get string_eq l.topics e.0 ≡ Some e.1) l.topic-iterator;
}
