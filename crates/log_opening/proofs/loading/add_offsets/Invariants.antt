use Rattle.std.proofs.Common.{◌≡◌, ◌++◌, List, All, length}
use Rattle.record_codec.specs.Entry.{Entry}
use Rattle.broker_model.specs.Tables.{OffsetRow, TopicRow}
use Rattle.group_tables.specs.Offsets.{IsOffset}
use Rattle.core_log.specs.Loads.{IsLoadedFrom, IsLoadedWith}
use Rattle.log_opening.proofs.loading.add_offsets.Given as goal

abbrev pub invariant-loop-row : goal.invariant-loop-row
invariant-loop-row l = record {
  left : All IsOffset l.left;
  loaded : (behind : List OffsetRow) × (l.fn.rows ≡ l.left ++ behind)
      × ((topics : List TopicRow) (records : List Entry) → IsLoadedFrom topics records l.initial.loaded → IsLoadedWith topics records behind l.loaded);
}

abbrev pub decreases-loop-row : goal.decreases-loop-row
decreases-loop-row l = length l.left
