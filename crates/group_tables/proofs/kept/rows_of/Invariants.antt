use Rattle.std.proofs.Common.{◌≡◌, ℕ, List, All, Some, true}
use Rattle.std.specs.HashMap.{get}
use Rattle.std.specs.Option.{option_or}
use Rattle.std.specs.String.{string_eq}
use Rattle.broker_model.specs.Tables.{offset_in}
use Rattle.group_tables.specs.Table.{in_topics, in_groups}
use Rattle.group_tables.specs.Offsets.{IsOfGroups}
use Rattle.group_tables.proofs.KeptLemmas.{of_names, AreApart}
use Rattle.group_tables.proofs.kept.rows_of.Given as goal

abbrev pub invariant-loop-group : goal.invariant-loop-group
invariant-loop-group l = record {
  found : (g t : List ℕ) (q : ℕ)
      → option_or (offset_in l.rows.items g t q) (of_names (λ topics. in_topics topics t q) true g l.group-iterator) ≡ in_groups l.groups g t q;
  apart : AreApart l.group-iterator;
  each : All (IsOfGroups l.groups) l.rows.items;
  left : All (λ e. get string_eq l.groups e.0 ≡ Some e.1) l.group-iterator;
}
