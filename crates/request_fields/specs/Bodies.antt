-- What the bodies of a heartbeat, a lock and an unlock say. Of a name that comes twice `serde_json` has the last value only.
use Rattle.std.specs.Prelude.{ℕ, ◌+◌, ◌^◌, ◌&&◌, List, [], ◌∷◌, length, codes, nat_lt}
use Rattle.std.specs.Prelude.{nat_le, Option, Some, None, option_and_then, if◌then◌else◌}
use Rattle.serde_json.specs.Data.{Data, null, boolean, number, string, array, object, Items, no_items, item}
use Rattle.serde_json.specs.Find.{get, as_number, as_u64, as_str, as_array}
use Rattle.remoting_frame.specs.Gives.{◌>>=◌}
use Rattle.remoting_frame.specs.Json.{data_of}
use Rattle.record_codec.specs.Layout.{is_legal}
use Rattle.request_fields.specs.Clients.{Beat}
use Rattle.request_fields.specs.declared.clients.QueueName.{QueueName}
use Rattle.request_fields.specs.declared.clients.Consumer.{Consumer}
use Rattle.request_fields.specs.declared.clients.Subscription.{Subscription}
use Rattle.request_fields.specs.Requests.{LockSaid}

-- ---- members of objects

-- the text of this name
abbrev pub text_of : List ℕ → Data → Option (List ℕ)
text_of name d = option_and_then as_str (get name d)

-- a text of 1 to 120 bytes
abbrev pub if_name : List ℕ → Option (List ℕ)
if_name t = if nat_lt 0 (length t) && nat_le (length t) 120 then Some t else None

-- the text of this name, which has 1 to 120 bytes
abbrev pub name_of : List ℕ → Data → Option (List ℕ)
name_of name d = option_and_then if_name (text_of name d)

-- each item by this reader, where it reads all
abbrev pub all_of : {X : Type 0} → (Data → Option X) → Items → Option (List X)
all_of reader no_items = Some []
all_of reader (item d ds) = reader d >>= λ x. all_of reader ds >>= λ xs. Some (x ∷ xs)

-- the items of a list, none where it is absent or null
abbrev pub items_or_none : Option Data → Option Items
items_or_none None = Some no_items
items_or_none (Some null) = Some no_items
items_or_none (Some (array ds)) = Some ds
items_or_none (Some (boolean b)) = None
items_or_none (Some (number n)) = None
items_or_none (Some (string s)) = None
items_or_none (Some (object ms)) = None

-- each item of a list by this reader, none where the list is absent or null
abbrev pub list_or_empty : {X : Type 0} → (Data → Option X) → Option Data → Option (List X)
list_or_empty reader o = items_or_none o >>= all_of reader

-- ---- heartbeats

-- a group of producers
abbrev pub producer_of : Data → Option (List ℕ)
producer_of d = name_of (codes "groupName") d

-- a topic with the words that choose its messages
unfoldable pub subscription_of : Data → Option Subscription
subscription_of d = do
  topic ← text_of (codes "topic") d
  words ← text_of (codes "subString") d
  Some (record { topic = topic; words = words })

-- a group of consumers with its subscriptions
unfoldable pub consumer_of : Data → Option Consumer
consumer_of d = do
  group ← name_of (codes "groupName") d
  subscriptions ← list_or_empty subscription_of (get (codes "subscriptionDataSet") d)
  Some (record { group = group; subscriptions = subscriptions })

-- a client and the groups that it is in
unfoldable pub beat_of : Data → Option Beat
beat_of d = do
  client ← name_of (codes "clientID") d
  producers ← list_or_empty producer_of (get (codes "producerDataSet") d)
  consumers ← list_or_empty consumer_of (get (codes "consumerDataSet") d)
  Some (record { client = client; producers = producers; consumers = consumers })

-- ---- locks

-- a legal topic
abbrev pub if_legal : List ℕ → Option (List ℕ)
if_legal t = if is_legal t then Some t else None

-- a broker's name of at most 255 bytes
abbrev pub if_broker : List ℕ → Option (List ℕ)
if_broker t = if nat_le (length t) 255 then Some t else None

-- a queue id, which is below 2^31
abbrev pub if_queue : ℕ → Option ℕ
if_queue n = if nat_lt n (2 ^ 31) then Some n else None

-- ---- the members of a queue's object

-- its legal topic
abbrev pub topic_of : Data → Option (List ℕ)
topic_of d = option_and_then if_legal (text_of (codes "topic") d)

-- its broker's name
abbrev pub broker_of : Data → Option (List ℕ)
broker_of d = option_and_then if_broker (text_of (codes "brokerName") d)

-- its queue id, a whole number: one written with a point or an exponent, and -0, is none
abbrev pub queue_of : Data → Option ℕ
queue_of d = option_and_then if_queue (option_and_then as_u64 (option_and_then as_number (get (codes "queueId") d)))

-- a queue that a client wants for itself
unfoldable pub queue_name_of : Data → Option QueueName
queue_name_of d = do
  topic ← topic_of d
  broker ← broker_of d
  queue ← queue_of d
  Some (record { topic = topic; broker = broker; queue = queue })

-- how many items there are
unfoldable pub count_items : Items → ℕ
count_items no_items = 0
count_items (item d ds) = count_items ds + 1

-- at most 4,096 items
abbrev pub if_few : Items → Option Items
if_few ds = if nat_le (count_items ds) 4096 then Some ds else None

-- the items of such a list, which has to be there
abbrev pub few_items : Option Data → Option Items
few_items o = option_and_then if_few (option_and_then as_array o)

-- the queues of such a list
abbrev pub queues_of : Option Data → Option (List QueueName)
queues_of o = few_items o >>= all_of queue_name_of

-- a client of a group and the queues that it wants, or wants no longer
unfoldable pub lock_of : Data → Option LockSaid
lock_of d = do
  group ← name_of (codes "consumerGroup") d
  client ← name_of (codes "clientId") d
  queues ← queues_of (get (codes "mqSet") d)
  Some (record { group = group; client = client; queues = queues })

-- ---- what the bytes of a body say

-- a heartbeat
abbrev pub beat_in : List ℕ → Option Beat
beat_in body = option_and_then beat_of (data_of body)

-- a lock or an unlock
abbrev pub lock_in : List ℕ → Option LockSaid
lock_in body = option_and_then lock_of (data_of body)
