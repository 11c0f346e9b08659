-- The rows of some members were added.
use Rattle.std.proofs.Common.{[]}
use Rattle.serde_json.specs.View.{members_view}
use Rattle.config_store.specs.Texts.{IsOffset}
use Rattle.config_store.specs.Reads.{AreTableRows}
use Rattle.config_store.proofs.RowLemmas.{Adds}
use Rattle.config_store.proofs.reading.table_rows.Given as goal

abbrev pub invariant-loop-name : goal.invariant-loop-name
invariant-loop-name l = Adds AreTableRows IsOffset (members_view l.table.entries) (members_view l.name-iterator) [] l.rows.items
