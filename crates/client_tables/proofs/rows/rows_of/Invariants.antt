use Rattle.std.proofs.Common.{◌≡◌, ◌++◌, map}
use Rattle.std.specs.String.{string_eq}
use Rattle.indexmap.specs.IndexMap.{IsUnique}
use Rattle.client_tables.proofs.RowLemmas.{entry_row}
use Rattle.client_tables.proofs.rows.rows_of.Given as goal

abbrev pub invariant-loop-topic : goal.invariant-loop-topic
invariant-loop-topic l = record {
  all : l.rows.items ++ map entry_row l.topic-iterator ≡ map entry_row l.counts.entries;
  apart : IsUnique string_eq l.counts;
}
