-- The request that a frame is, by its code: the fields that it needs and keeps, or what its body says.
use Rattle.std.specs.Prelude.{◌≡◌, ℕ, List, [], codes, ℤ, pos, negsuc, Option, Some, None, Result, Ok, Err, if◌then◌else◌}
use Rattle.std.specs.Ordering.{int_eq}
use Rattle.remoting_frame.specs.Head.{Head}
use Rattle.request_fields.specs.Values.{text_at, i32_or, i64_or, u31_at, time_at, count_at, verdict_at}
use Rattle.request_fields.specs.Faults.{first_fault}
use Rattle.request_fields.specs.Rows.{SendNames, long_names, short_names, send_row, pull_row, query_row, offset_row}
use Rattle.request_fields.specs.Rows.{set_offset_row, topic_row, search_row, queue_row, view_row, unregister_row, end_row}
use Rattle.request_fields.specs.Bodies.{beat_in, lock_in}
use Rattle.request_fields.specs.Requests.{SendSaid, PullSaid, QuerySaid, OffsetSaid, SetOffsetSaid, TopicSaid}
use Rattle.request_fields.specs.Requests.{SearchSaid, QueueSaid, ViewSaid, UnregisterSaid, EndSaid}
use Rattle.request_fields.specs.declared.fault.RequestFault.{RequestFault}
use Rattle.request_fields.specs.declared.fault.RequestFault.TheVariants.{Unsupported, Missing, BadNumber, BadBody, Memory}
use Rattle.request_fields.specs.declared.request.Request.{Request}
use Rattle.request_fields.specs.declared.request.Request.TheVariants.{Send, Pull, Query, OffsetOf, SetOffset, MakeTopic, Search, MaxOffset}
use Rattle.request_fields.specs.declared.request.Request.TheVariants.{MinOffset, ViewById, Beat, Unregister, EndTransaction, Lock, Unlock}
use Rattle.request_fields.specs.declared.rows.PullNumbers.{PullNumbers}
use Rattle.request_fields.specs.declared.send.SendNumbers.{SendNumbers}

-- ---- what the fields say, where they have no fault

-- a SEND, whose body is the message's
unfoldable pub send_said : SendNames → List (List ℕ × List ℕ) → List ℕ → SendSaid
send_said n ext body = record {
  group = text_at n.group ext;
  topic = text_at n.topic ext;
  queue = i32_or (pos 0) n.queue ext;
  sysflag = i32_or (pos 0) n.sysflag ext;
  born = time_at n.born ext;
  flag = i32_or (pos 0) n.flag ext;
  default_topic = text_at n.default_topic ext;
  default_queues = i32_or (pos 0) n.default_queues ext;
  props = text_at n.props ext;
  reconsume = i32_or (pos 0) n.reconsume ext;
  body = body;
}

-- its numbers
unfoldable pub send_numbers : SendNames → List (List ℕ × List ℕ) → SendNumbers
send_numbers n ext =
    let said = send_said n ext [] in
    record {
      queue = said.queue;
      sysflag = said.sysflag;
      born = said.born;
      flag = said.flag;
      default_queues = said.default_queues;
      reconsume = said.reconsume;
    }

-- a pull, with -1 for an absent offset to store and 0 for an absent time to wait
unfoldable pub pull_said : List (List ℕ × List ℕ) → PullSaid
pull_said ext = record {
  group = text_at (codes "consumerGroup") ext;
  topic = text_at (codes "topic") ext;
  queue = u31_at (codes "queueId") ext;
  from = i64_or (pos 0) (codes "queueOffset") ext;
  most = i32_or (pos 0) (codes "maxMsgNums") ext;
  sysflag = i32_or (pos 0) (codes "sysFlag") ext;
  commit = i64_or (negsuc 0) (codes "commitOffset") ext;
  suspend = i64_or (pos 0) (codes "suspendTimeoutMillis") ext;
  subscription = text_at (codes "subscription") ext;
  expression = text_at (codes "expressionType") ext;
}

-- its numbers
unfoldable pub pull_numbers : List (List ℕ × List ℕ) → PullNumbers
pull_numbers ext =
    let said = pull_said ext in
    record { queue = said.queue; from = said.from; most = said.most; sysflag = said.sysflag; commit = said.commit; suspend = said.suspend }

-- a query by key
unfoldable pub query_said : List (List ℕ × List ℕ) → QuerySaid
query_said ext = record {
  topic = text_at (codes "topic") ext;
  key = text_at (codes "key") ext;
  most = i32_or (pos 0) (codes "maxNum") ext;
  from = i64_or (pos 0) (codes "beginTimestamp") ext;
  to = i64_or (pos 0) (codes "endTimestamp") ext;
}

-- a query of a group's offset
unfoldable pub offset_said : List (List ℕ × List ℕ) → OffsetSaid
offset_said ext = record {
  group = text_at (codes "consumerGroup") ext;
  topic = text_at (codes "topic") ext;
  queue = u31_at (codes "queueId") ext;
}

-- a group's offset to be stored
unfoldable pub set_offset_said : List (List ℕ × List ℕ) → SetOffsetSaid
set_offset_said ext = record {
  group = text_at (codes "consumerGroup") ext;
  topic = text_at (codes "topic") ext;
  queue = u31_at (codes "queueId") ext;
  offset = time_at (codes "commitOffset") ext;
}

-- a topic to be made
unfoldable pub topic_said : List (List ℕ × List ℕ) → TopicSaid
topic_said ext = record {
  topic = text_at (codes "topic") ext;
  read = count_at (codes "readQueueNums") ext;
  write = count_at (codes "writeQueueNums") ext;
}

-- a search by time
unfoldable pub search_said : List (List ℕ × List ℕ) → SearchSaid
search_said ext = record {
  topic = text_at (codes "topic") ext;
  queue = u31_at (codes "queueId") ext;
  time = i64_or (pos 0) (codes "timestamp") ext;
}

-- a queue
unfoldable pub queue_said : List (List ℕ × List ℕ) → QueueSaid
queue_said ext = record {
  topic = text_at (codes "topic") ext;
  queue = u31_at (codes "queueId") ext;
}

-- a record's place
unfoldable pub view_said : List (List ℕ × List ℕ) → ViewSaid
view_said ext = record { offset = time_at (codes "offset") ext }

-- a client that leaves, with empty texts for groups that it does not name
unfoldable pub unregister_said : List (List ℕ × List ℕ) → UnregisterSaid
unregister_said ext = record {
  client = text_at (codes "clientID") ext;
  producer = text_at (codes "producerGroup") ext;
  consumer = text_at (codes "consumerGroup") ext;
}

-- a verdict
unfoldable pub end_said : List (List ℕ × List ℕ) → EndSaid
end_said ext = record {
  group = text_at (codes "producerGroup") ext;
  queue_offset = time_at (codes "tranStateTableOffset") ext;
  place = time_at (codes "commitLogOffset") ext;
  verdict = verdict_at (codes "commitOrRollback") ext;
  msg_id = text_at (codes "msgId") ext;
}

-- ---- the request

-- the first fault, or what is said
abbrev pub faultless : Option RequestFault → Request → Result Request RequestFault
faultless (Some fault) said = Err fault
faultless None said = Ok said

-- what a body says, if it is of its form
abbrev pub of_body : {X : Type 0} → (X → Request) → Option X → Result Request RequestFault
of_body request (Some said) = Ok (request said)
of_body request None = Err BadBody

-- the request of a code whose fields are these and whose body is this
unfoldable pub request_in : ℤ → List (List ℕ × List ℕ) → List ℕ → Result Request RequestFault
request_in code ext body =
    if int_eq code (pos 10) then faultless (first_fault (send_row long_names) ext) (Send (send_said long_names ext body))
    else (if int_eq code (pos 11) then faultless (first_fault pull_row ext) (Pull (pull_said ext))
    else (if int_eq code (pos 12) then faultless (first_fault query_row ext) (Query (query_said ext))
    else (if int_eq code (pos 14) then faultless (first_fault offset_row ext) (OffsetOf (offset_said ext))
    else (if int_eq code (pos 15) then faultless (first_fault set_offset_row ext) (SetOffset (set_offset_said ext))
    else (if int_eq code (pos 17) then faultless (first_fault topic_row ext) (MakeTopic (topic_said ext))
    else (if int_eq code (pos 29) then faultless (first_fault search_row ext) (Search (search_said ext))
    else (if int_eq code (pos 30) then faultless (first_fault queue_row ext) (MaxOffset (queue_said ext))
    else (if int_eq code (pos 31) then faultless (first_fault queue_row ext) (MinOffset (queue_said ext))
    else (if int_eq code (pos 33) then faultless (first_fault view_row ext) (ViewById (view_said ext))
    else (if int_eq code (pos 34) then of_body Beat (beat_in body)
    else (if int_eq code (pos 35) then faultless (first_fault unregister_row ext) (Unregister (unregister_said ext))
    else (if int_eq code (pos 37) then faultless (first_fault end_row ext) (EndTransaction (end_said ext))
    else (if int_eq code (pos 41) then of_body Lock (lock_in body)
    else (if int_eq code (pos 42) then of_body Unlock (lock_in body)
    else (if int_eq code (pos 310) then faultless (first_fault (send_row short_names) ext) (Send (send_said short_names ext body))
    else Err (Unsupported code))))))))))))))))

-- the request that a frame with this header and body is, or its first fault
abbrev pub request_of : Head → List ℕ → Result Request RequestFault
request_of head body = request_in head.code head.ext body

-- What was read is what there is to read, unless memory ran out.
abbrev pub Reads : {X : Type 0} → Result X RequestFault → Result X RequestFault → Type 0
Reads (Ok x) there = there ≡ Ok x
Reads (Err Memory) there = Unit {0}
Reads (Err (Unsupported code)) there = there ≡ Err (Unsupported code)
Reads (Err (Missing field)) there = there ≡ Err (Missing field)
Reads (Err (BadNumber field)) there = there ≡ Err (BadNumber field)
Reads (Err BadBody) there = there ≡ Err BadBody
