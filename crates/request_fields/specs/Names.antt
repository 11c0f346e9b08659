-- How a contract sees the names of a SEND's fields.
use Rattle.request_fields.specs.Rows.{SendNames}
use Rattle.request_fields.specs.declared.send_names.SendNames.{SendNames as Names}

abbrev pub names_view : Names → SendNames
names_view n = record {
  group = n.group.now;
  topic = n.topic.now;
  default_topic = n.default_topic.now;
  default_queues = n.default_queues.now;
  queue = n.queue.now;
  sysflag = n.sysflag.now;
  born = n.born.now;
  flag = n.flag.now;
  props = n.props.now;
  reconsume = n.reconsume.now;
  unit_mode = n.unit_mode.now;
  max_reconsume = n.max_reconsume.now;
  batch = n.batch.now;
}
