-- The body that tells which queues a client got.
use Rattle.std.specs.Prelude.{ℕ, ◌≤◌, ◌<◌, ◌^◌, List, [], ◌∷◌, length, codes}
use Rattle.request_fields.specs.declared.clients.QueueName.{QueueName}
use Rattle.serde_json.specs.Data.{Data, unsigned, number, string, array, object, Items, no_items, item, no_members, member}
use Rattle.serde_json.specs.Written.{compact_text}

-- the names of a queue are short enough that the bodies of 4,096 queues are
pub record HasShortNames (q : QueueName) : Type 0 where
  pub topic : length q.topic ≤ 255
  pub broker : length q.broker ≤ 255
  pub queue : q.queue < 2 ^ 32

-- what is said of one queue
abbrev pub queue_data : QueueName → Data
queue_data q = object
    (member (codes "brokerName") (string q.broker)
    (member (codes "queueId") (number (unsigned q.queue))
    (member (codes "topic") (string q.topic) no_members)))

-- the same of each of these queues
abbrev pub queues_items : List QueueName → Items
queues_items [] = no_items
queues_items (q ∷ queues) = item (queue_data q) (queues_items queues)

-- an object whose one member is the list of these queues
abbrev pub granted_data : List QueueName → Data
granted_data queues = object (member (codes "lockOKMQSet") (array (queues_items queues)) no_members)

-- its text, with no space
abbrev pub granted_text : List QueueName → List ℕ
granted_text queues = compact_text (granted_data queues)
