-- What is known of a record without its body.
use Rattle.std.specs.Prelude.{◌≡◌}
use Rattle.record_codec.specs.Entry.{Entry}
use Rattle.record_codec.specs.Layout.{size}
use Rattle.half_view.specs.declared.head.Head.{Head}
use Rattle.half_view.specs.OfLog.{rolled_back_by}

-- The head is that of this record.
pub record IsHeadOf (r : Entry) (head : Head) : Type 0 where
  pub place : head.place ≡ r.offset
  pub size : head.size ≡ size r
  pub topic : head.topic ≡ r.topic
  pub queue : head.queue ≡ r.queue
  pub queue_offset : head.queue_offset ≡ r.queue_offset
  pub store : head.store ≡ r.store
  pub sysflag : head.sysflag ≡ r.sysflag
  pub prepared : head.prepared ≡ r.prepared
  pub props : head.props ≡ r.props
  pub op : head.op ≡ rolled_back_by r
