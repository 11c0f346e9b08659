-- The rows of some queues were added.
use Rattle.serde_json.specs.View.{members_view}
use Rattle.config_store.specs.Texts.{IsOffset}
use Rattle.config_store.specs.Reads.{AreQueueRows}
use Rattle.config_store.proofs.RowLemmas.{Adds}
use Rattle.config_store.proofs.reading.add_queues.Given as goal

abbrev pub invariant-loop-name : goal.invariant-loop-name
invariant-loop-name l =
    Adds (AreQueueRows l.topic l.group) IsOffset (members_view l.queues.entries) (members_view l.name-iterator) l.initial.rows.items l.rows.items
