-- When a delayed message may be loaded.
use Rattle.std.specs.Prelude.{◌≡◌, ◌+◌, ◌<◌}
use Rattle.record_codec.specs.Entry.{Entry}
use Rattle.record_codec.specs.Layout.{IsRecord}
use Rattle.log_model.specs.Admissible.{level_topic}
use Rattle.log_model.specs.Numbered.{Log, queue_max}
use Rattle.delay_view.specs.OfLog.{IsMessageOf}

-- the record is the next message of its level, and has a layout
pub record IsNextMessage (log : Log) (r : Entry) : Type 0 where
  pub message : IsMessageOf (r.queue + 1) r
  pub low : r.queue < 18
  pub number : r.queue_offset ≡ queue_max log level_topic r.queue
  pub layout : IsRecord r
