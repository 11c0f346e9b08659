-- The table has the rows behind those that are left.
use Rattle.std.proofs.Common.{◌≡◌, List, ◌++◌, length}
use Rattle.broker_model.specs.Tables.{TopicRow}
use Rattle.serde_json.specs.View.{members_view}
use Rattle.config_store.specs.Texts.{topic_members}
use Rattle.config_store.proofs.writing.topics_table.Given as goal

abbrev pub invariant-loop-row : goal.invariant-loop-row
invariant-loop-row l = (behind : List TopicRow) × (l.fn.rows ≡ l.left ++ behind) × (members_view l.table.entries ≡ topic_members behind)

abbrev pub decreases-loop-row : goal.decreases-loop-row
decreases-loop-row l = length l.left
