-- What requests say, and the ranges that their fields keep.
use Rattle.std.specs.Prelude.{◌≡◌, ℕ, ◌<◌, ◌≤◌, ◌^◌, ◌⊎◌, List, [], length, ℤ, true, false, nat_eq, All}
use Rattle.std.specs.List.{list_any}
use Rattle.request_fields.specs.Clients.{IsName}
use Rattle.request_fields.specs.declared.clients.QueueName.{QueueName}
use Rattle.record_codec.specs.Layout.{is_legal}

-- the name of a group or a client in a field: 1 to 120 bytes, none of them 1 or 2
pub record IsFieldName (t : List ℕ) : Type 0 where
  pub some : 0 < length t
  pub short : length t ≤ 120
  pub no_1 : list_any (nat_eq 1) t ≡ false
  pub no_2 : list_any (nat_eq 2) t ≡ false

-- such a name, or none
abbrev pub IsFieldNameOrEmpty : List ℕ → Type 0
IsFieldNameOrEmpty t = IsFieldName t ⊎ (t ≡ [])

-- a queue that a client may lock
pub record IsQueueName (q : QueueName) : Type 0 where
  pub topic : is_legal q.topic ≡ true
  pub broker : length q.broker ≤ 255
  pub queue : q.queue < 2 ^ 31

-- a message, as its producer sends it
pub record SendSaid : Type 0 where
  pub group : List ℕ
  pub topic : List ℕ
  pub queue : ℤ
  pub sysflag : ℤ
  pub born : ℕ
  pub flag : ℤ
  pub default_topic : List ℕ
  pub default_queues : ℤ
  pub props : List ℕ
  pub reconsume : ℤ
  pub body : List ℕ

-- the ranges of its fields
pub record KeepsSend (said : SendSaid) : Type 0 where
  pub group : IsFieldName said.group
  pub born : said.born < 2 ^ 62

-- a pull of messages of a queue
pub record PullSaid : Type 0 where
  pub group : List ℕ
  pub topic : List ℕ
  pub queue : ℕ
  pub from : ℤ
  pub most : ℤ
  pub sysflag : ℤ
  pub commit : ℤ
  pub suspend : ℤ
  pub subscription : List ℕ
  pub expression : List ℕ

-- the ranges of its fields
pub record KeepsPull (said : PullSaid) : Type 0 where
  pub group : IsFieldName said.group
  pub queue : said.queue < 2 ^ 31

-- a query by key
pub record QuerySaid : Type 0 where
  pub topic : List ℕ
  pub key : List ℕ
  pub most : ℤ
  pub from : ℤ
  pub to : ℤ

-- which offset a group has stored for a queue
pub record OffsetSaid : Type 0 where
  pub group : List ℕ
  pub topic : List ℕ
  pub queue : ℕ

-- the ranges of its fields
pub record KeepsOffset (said : OffsetSaid) : Type 0 where
  pub group : IsFieldName said.group
  pub queue : said.queue < 2 ^ 31

-- the offset that a group stores for a queue
pub record SetOffsetSaid : Type 0 where
  pub group : List ℕ
  pub topic : List ℕ
  pub queue : ℕ
  pub offset : ℕ

-- the ranges of its fields
pub record KeepsSetOffset (said : SetOffsetSaid) : Type 0 where
  pub group : IsFieldName said.group
  pub queue : said.queue < 2 ^ 31
  pub offset : said.offset < 2 ^ 62

-- a topic to be made
pub record TopicSaid : Type 0 where
  pub topic : List ℕ
  pub read : ℕ
  pub write : ℕ

-- the ranges of its fields
pub record KeepsTopic (said : TopicSaid) : Type 0 where
  pub read : (0 < said.read) × (said.read ≤ 1024)
  pub write : (0 < said.write) × (said.write ≤ 1024)

-- which offset of a queue a time has
pub record SearchSaid : Type 0 where
  pub topic : List ℕ
  pub queue : ℕ
  pub time : ℤ

-- the ranges of its fields
pub record KeepsSearch (said : SearchSaid) : Type 0 where
  pub queue : said.queue < 2 ^ 31

-- a queue of a topic
pub record QueueSaid : Type 0 where
  pub topic : List ℕ
  pub queue : ℕ

-- the ranges of its fields
pub record KeepsQueue (said : QueueSaid) : Type 0 where
  pub queue : said.queue < 2 ^ 31

-- the place of a record
pub record ViewSaid : Type 0 where
  pub offset : ℕ

-- the ranges of its fields
pub record KeepsView (said : ViewSaid) : Type 0 where
  pub offset : said.offset < 2 ^ 62

-- a client that leaves groups
pub record UnregisterSaid : Type 0 where
  pub client : List ℕ
  pub producer : List ℕ
  pub consumer : List ℕ

-- the ranges of its fields
pub record KeepsUnregister (said : UnregisterSaid) : Type 0 where
  pub client : IsFieldName said.client
  pub producer : IsFieldNameOrEmpty said.producer
  pub consumer : IsFieldNameOrEmpty said.consumer

-- a producer's verdict on a half message
pub record EndSaid : Type 0 where
  pub group : List ℕ
  pub queue_offset : ℕ
  pub place : ℕ
  pub verdict : ℕ
  pub msg_id : List ℕ

-- the ranges of its fields
pub record KeepsEnd (said : EndSaid) : Type 0 where
  pub group : IsFieldName said.group
  pub queue_offset : said.queue_offset < 2 ^ 62
  pub place : said.place < 2 ^ 62
  pub verdict : (said.verdict ≡ 0) ⊎ (said.verdict ≡ 8) ⊎ (said.verdict ≡ 12)

-- the queues that a client of a group wants, or wants no longer
pub record LockSaid : Type 0 where
  pub group : List ℕ
  pub client : List ℕ
  pub queues : List QueueName

-- the ranges of its fields
pub record KeepsLock (said : LockSaid) : Type 0 where
  pub group : IsName said.group
  pub client : IsName said.client
  pub few : length said.queues ≤ 4096
  pub queues : All IsQueueName said.queues
