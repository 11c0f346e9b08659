-- Why a request that could be read is refused: of the rows, in their order, the first that holds.
use Rattle.std.specs.Prelude.{ℕ, ◌+◌, ◌==◌, ◌&&◌, ◌||◌, not, nat_lt, min, max, List, [], ◌∷◌, length, codes, ℤ}
use Rattle.std.specs.Prelude.{pos, negsuc, Bool, false, is_none, Option, Some, None, unwrap_or, if◌then◌else◌}
use Rattle.std.specs.Str.{bytes_eq}
use Rattle.record_codec.specs.Entry.{Entry}
use Rattle.record_codec.specs.Layout.{is_legal, are_hosts_short}
use Rattle.record_codec.specs.Drafts.{first_that_holds}
use Rattle.record_codec.specs.Props.{value_of}
use Rattle.log_model.specs.Admissible.{is_system_topic, half_topic, op_topic, level_topic, most_queues}
use Rattle.log_model.specs.Kinds.{is_text}
use Rattle.log_model.specs.Transactions.{TransactionState, Open, Committed, RolledBack, Discarded, transaction_state, origin_of, half_at}
use Rattle.request_fields.specs.Requests.{SendSaid, PullSaid, EndSaid, TopicSaid}
use Rattle.request_fields.specs.declared.request.Request.{Request}
use Rattle.request_fields.specs.declared.request.Request.TheVariants.{Send, Pull, Query, OffsetOf, SetOffset, MakeTopic, Search, MaxOffset}
use Rattle.request_fields.specs.declared.request.Request.TheVariants.{MinOffset, ViewById, Beat, Unregister, EndTransaction, Lock, Unlock}
use Rattle.broker_model.specs.Tables.{queues_in}
use Rattle.broker_model.specs.State.{State}
use Rattle.broker_model.specs.Events.{Reply}
use Rattle.broker_model.specs.Sends.{queue_named, flag_of}

-- a code and a remark, with no fields and no body
abbrev pub plain_reply : ℕ → List ℕ → Reply
plain_reply code remark = record { code = code; remark = remark; ext = []; body = [] }

-- the first refusal, or else the other one
abbrev pub or_else : Option Reply → Option Reply → Option Reply
or_else None other = other
or_else (Some reply) other = Some reply

-- ---- sends

-- how many queues a topic is made with, where a send asks for this number: 1 to 8
abbrev pub made_queues : ℤ → ℕ
made_queues (pos n) = min (max n 1) 8
made_queues (negsuc n) = 1

-- how many queues the topic of a send has, or is made with
abbrev pub send_queues : State → SendSaid → ℕ
send_queues s send = unwrap_or (queues_in s.topics send.topic) (made_queues send.default_queues)

-- the refusal of a send
abbrev pub send_refusal : State → SendSaid → Option Reply
send_refusal s send = first_that_holds (
    (not (is_legal send.topic), plain_reply 13 (codes "topic"))
    ∷ (not (are_hosts_short (flag_of send)), plain_reply 13 (codes "sysFlag"))
    ∷ (nat_lt 4194304 (length send.body), plain_reply 13 (codes "body"))
    ∷ (nat_lt 31999 (length send.props), plain_reply 13 (codes "properties"))
    ∷ (nat_lt s.setup.segment (length send.body + length send.props + 1024), plain_reply 13 (codes "record"))
    ∷ (is_system_topic send.topic, plain_reply 16 (codes "system topic"))
    ∷ (is_none (queues_in s.topics send.topic) && (length send.default_topic == 0), plain_reply 17 (codes "no topic"))
    ∷ (not (nat_lt (queue_named send.queue) (send_queues s send)), plain_reply 1 (codes "queue"))
    ∷ [])

-- ---- queues and topics

-- how many queues a topic has: those that the broker keeps for itself have fixed numbers
abbrev pub queue_count : State → List ℕ → Option ℕ
queue_count s topic = if is_system_topic topic then Some (most_queues topic) else queues_in s.topics topic

-- the topic of a queue is known, and the queue is one of its queues
abbrev pub queue_refusal : State → List ℕ → ℕ → Option Reply
queue_refusal s topic queue = first_that_holds (
    (is_none (queue_count s topic), plain_reply 17 (codes "no topic"))
    ∷ (not (nat_lt queue (unwrap_or (queue_count s topic) 0)), plain_reply 1 (codes "queue"))
    ∷ [])

-- a topic that nobody may pull: delayed messages, half messages, and op records
abbrev pub is_closed_topic : List ℕ → Bool
is_closed_topic topic = bytes_eq topic level_topic || bytes_eq topic half_topic || bytes_eq topic op_topic

-- the way in which a pull chooses messages is by tags, said or not
abbrev pub is_by_tags : List ℕ → Bool
is_by_tags expression = (length expression == 0) || bytes_eq expression (codes "TAG")

-- the refusal of a pull
abbrev pub pull_refusal : State → PullSaid → Option Reply
pull_refusal s pull =
    or_else (first_that_holds ((is_closed_topic pull.topic, plain_reply 16 (codes "system topic")) ∷ []))
    (or_else (queue_refusal s pull.topic pull.queue)
    (first_that_holds ((not (is_by_tags pull.expression), plain_reply 1 (codes "expression")) ∷ [])))

-- the refusal of a topic to be made
abbrev pub topic_refusal : TopicSaid → Option Reply
topic_refusal t = first_that_holds (
    (not (is_legal t.topic), plain_reply 13 (codes "topic"))
    ∷ (is_system_topic t.topic, plain_reply 16 (codes "system topic"))
    ∷ [])

-- ---- verdicts

-- the half message has an id, and the verdict names another one
abbrev pub is_other_id : List ℕ → Option (List ℕ) → Bool
is_other_id id None = false
is_other_id id (Some own) = nat_lt 0 (length id) && not (bytes_eq own id)

-- the verdict is by the half message's group, and names its id or none
abbrev pub is_by_its_group : EndSaid → Entry → Bool
is_by_its_group end half =
    is_text end.group (value_of (codes "PGROUP") half.props) && not (is_other_id end.msg_id (value_of (codes "UNIQ_KEY") half.props))

-- the half message that a verdict names, by its queue offset and its place
abbrev pub named_half : State → EndSaid → Option Entry
named_half s end = half_at s.log.records end.queue_offset end.place

-- the origin of the half message that the verdict is on
abbrev pub judged_origin : List Entry → EndSaid → Option Entry → Option Entry
judged_origin log end None = None
judged_origin log end (Some half) = if is_by_its_group end half then origin_of log half else None

-- the origin that a verdict is on
abbrev pub verdict_origin : State → EndSaid → Option Entry
verdict_origin s end = judged_origin s.log.records end (named_half s end)

-- a verdict that is no first one and disagrees with what the origin became; 0 is no verdict
abbrev pub settled_otherwise : ℕ → TransactionState → Option Reply
settled_otherwise verdict Open = None
settled_otherwise verdict Committed = if verdict == 12 then Some (plain_reply 1 (codes "settled committed")) else None
settled_otherwise verdict RolledBack = if verdict == 8 then Some (plain_reply 1 (codes "settled rolledback")) else None
settled_otherwise verdict Discarded = if verdict == 0 then None else Some (plain_reply 1 (codes "settled discarded"))

-- the verdict is on no origin, or disagrees
abbrev pub origin_refusal : List Entry → ℕ → Option Entry → Option Reply
origin_refusal log verdict None = Some (plain_reply 1 (codes "half"))
origin_refusal log verdict (Some origin) = settled_otherwise verdict (transaction_state log origin.queue_offset)

-- the refusal of a verdict
abbrev pub end_refusal : State → EndSaid → Option Reply
end_refusal s end = origin_refusal s.log.records end.verdict (verdict_origin s end)

-- ---- all requests

-- the refusal of a request, none where it is carried out
unfoldable pub refusal_of : State → Request → Option Reply
refusal_of s (Send send) = send_refusal s send
refusal_of s (Pull pull) = pull_refusal s pull
refusal_of s (Query q) = None
refusal_of s (OffsetOf q) = queue_refusal s q.topic q.queue
refusal_of s (SetOffset q) = queue_refusal s q.topic q.queue
refusal_of s (MakeTopic t) = topic_refusal t
refusal_of s (Search q) = queue_refusal s q.topic q.queue
refusal_of s (MaxOffset q) = queue_refusal s q.topic q.queue
refusal_of s (MinOffset q) = queue_refusal s q.topic q.queue
refusal_of s (ViewById v) = None
refusal_of s (Beat b) = None
refusal_of s (Unregister u) = None
refusal_of s (EndTransaction end) = end_refusal s end
refusal_of s (Lock l) = None
refusal_of s (Unlock l) = None
