-- The fields of each code: names, kinds, and which have to be there.
use Rattle.std.specs.Prelude.{ℕ, List, [], ◌∷◌, codes}
use Rattle.request_fields.specs.Kinds.{text, name, i32, i64, u31, time, count, verdict, untrue}
use Rattle.request_fields.specs.Faults.{Row}

-- the names of the fields of a SEND, which codes 10 and 310 have under different ones
pub record SendNames : Type 0 where
  pub group : List ℕ
  pub topic : List ℕ
  pub default_topic : List ℕ
  pub default_queues : List ℕ
  pub queue : List ℕ
  pub sysflag : List ℕ
  pub born : List ℕ
  pub flag : List ℕ
  pub props : List ℕ
  pub reconsume : List ℕ
  pub unit_mode : List ℕ
  pub max_reconsume : List ℕ
  pub batch : List ℕ

-- code 10
abbrev pub long_names : SendNames
long_names = record {
  group = codes "producerGroup";
  topic = codes "topic";
  default_topic = codes "defaultTopic";
  default_queues = codes "defaultTopicQueueNums";
  queue = codes "queueId";
  sysflag = codes "sysFlag";
  born = codes "bornTimestamp";
  flag = codes "flag";
  props = codes "properties";
  reconsume = codes "reconsumeTimes";
  unit_mode = codes "unitMode";
  max_reconsume = codes "maxReconsumeTimes";
  batch = codes "batch";
}

-- code 310
abbrev pub short_names : SendNames
short_names = record {
  group = codes "a";
  topic = codes "b";
  default_topic = codes "c";
  default_queues = codes "d";
  queue = codes "e";
  sysflag = codes "f";
  born = codes "g";
  flag = codes "h";
  props = codes "i";
  reconsume = codes "j";
  unit_mode = codes "k";
  max_reconsume = codes "l";
  batch = codes "m";
}

-- a SEND, codes 10 and 310
unfoldable pub send_row : SendNames → Row
send_row n = record {
  required = (n.group, name) ∷ (n.topic, text) ∷ (n.queue, i32) ∷ (n.sysflag, i32) ∷ (n.born, time) ∷ (n.flag, i32) ∷ [];
  optional = (n.default_topic, text) ∷ (n.default_queues, i32) ∷ (n.props, text) ∷ (n.reconsume, i32) ∷ (n.max_reconsume, i32)
      ∷ (n.unit_mode, text) ∷ (n.batch, untrue) ∷ [];
}

-- PULL_MESSAGE, code 11
unfoldable pub pull_row : Row
pull_row = record {
  required = (codes "consumerGroup", name) ∷ (codes "topic", text) ∷ (codes "queueId", u31) ∷ (codes "queueOffset", i64)
      ∷ (codes "maxMsgNums", i32) ∷ (codes "sysFlag", i32) ∷ [];
  optional = (codes "commitOffset", i64) ∷ (codes "suspendTimeoutMillis", i64) ∷ (codes "subscription", text) ∷ (codes "subVersion", i64)
      ∷ (codes "expressionType", text) ∷ [];
}

-- QUERY_MESSAGE, code 12
unfoldable pub query_row : Row
query_row = record {
  required = (codes "topic", text) ∷ (codes "key", text) ∷ (codes "maxNum", i32) ∷ (codes "beginTimestamp", i64)
      ∷ (codes "endTimestamp", i64) ∷ [];
  optional = [];
}

-- QUERY_CONSUMER_OFFSET, code 14
unfoldable pub offset_row : Row
offset_row = record {
  required = (codes "consumerGroup", name) ∷ (codes "topic", text) ∷ (codes "queueId", u31) ∷ [];
  optional = [];
}

-- UPDATE_CONSUMER_OFFSET, code 15
unfoldable pub set_offset_row : Row
set_offset_row = record {
  required = (codes "consumerGroup", name) ∷ (codes "topic", text) ∷ (codes "queueId", u31) ∷ (codes "commitOffset", time) ∷ [];
  optional = [];
}

-- UPDATE_AND_CREATE_TOPIC, code 17
unfoldable pub topic_row : Row
topic_row = record {
  required = (codes "topic", text) ∷ (codes "readQueueNums", count) ∷ (codes "writeQueueNums", count) ∷ [];
  optional = (codes "defaultTopic", text) ∷ (codes "perm", text) ∷ (codes "topicFilterType", text) ∷ (codes "topicSysFlag", text)
      ∷ (codes "order", text) ∷ [];
}

-- SEARCH_OFFSET_BY_TIMESTAMP, code 29
unfoldable pub search_row : Row
search_row = record {
  required = (codes "topic", text) ∷ (codes "queueId", u31) ∷ (codes "timestamp", i64) ∷ [];
  optional = [];
}

-- GET_MAX_OFFSET and GET_MIN_OFFSET, codes 30 and 31
unfoldable pub queue_row : Row
queue_row = record {
  required = (codes "topic", text) ∷ (codes "queueId", u31) ∷ [];
  optional = [];
}

-- VIEW_MESSAGE_BY_ID, code 33
unfoldable pub view_row : Row
view_row = record {
  required = (codes "offset", time) ∷ [];
  optional = [];
}

-- UNREGISTER_CLIENT, code 35
unfoldable pub unregister_row : Row
unregister_row = record {
  required = (codes "clientID", name) ∷ [];
  optional = (codes "producerGroup", name) ∷ (codes "consumerGroup", name) ∷ [];
}

-- END_TRANSACTION, code 37
unfoldable pub end_row : Row
end_row = record {
  required = (codes "producerGroup", name) ∷ (codes "tranStateTableOffset", time) ∷ (codes "commitLogOffset", time)
      ∷ (codes "commitOrRollback", verdict) ∷ [];
  optional = (codes "fromTransactionCheck", text) ∷ (codes "msgId", text) ∷ (codes "transactionId", text) ∷ [];
}
