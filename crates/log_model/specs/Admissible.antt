-- Which records a log may have, whatever stands before them, and which half message a record names.
use Rattle.std.specs.Prelude.{◌≡◌, ℕ, ◌^◌, ◌<◌, ◌≤◌, ◌==◌, ◌&&◌, ◌||◌, not, nat_lt, bit_and, List, length, slice_index, codes}
use Rattle.std.specs.Prelude.{ℤ, pos, negsuc, Bool, true, false, Option, Some, None, IsSome, IfSome, if◌then◌else◌}
use Rattle.std.specs.Str.{bytes_eq, is_utf8}
use Rattle.mq_bytes.specs.Decimal.{decimal_value}
use Rattle.record_codec.specs.Entry.{Entry}
use Rattle.record_codec.specs.Layout.{is_legal}
use Rattle.record_codec.specs.Props.{value_of, until}
use Rattle.log_model.specs.Made.{CanBeRenewed, CanBeDiscarded, CanBeDelivered}

-- ---- the topics that the broker keeps for itself

-- delayed messages, half messages, what settles these, and those that were given up
abbrev pub level_topic : List ℕ
level_topic = codes "SCHEDULE_TOPIC_XXXX"

abbrev pub half_topic : List ℕ
half_topic = codes "RMQ_SYS_TRANS_HALF_TOPIC"

abbrev pub op_topic : List ℕ
op_topic = codes "RMQ_SYS_TRANS_OP_HALF_TOPIC"

abbrev pub discard_topic : List ℕ
discard_topic = codes "TRANS_CHECK_MAX_TIME_TOPIC"

abbrev pub is_system_topic : List ℕ → Bool
is_system_topic topic = bytes_eq topic level_topic || bytes_eq topic half_topic || bytes_eq topic op_topic || bytes_eq topic discard_topic

-- how many queues a topic may have
abbrev pub most_queues : List ℕ → ℕ
most_queues topic = if bytes_eq topic level_topic then 18 else (if is_system_topic topic then 1 else 1024)

-- ---- numbers in texts

-- the text has no sign and no leading zero
abbrev pub is_bare : List ℕ → Bool
is_bare text = nat_lt 0 (length text) && not (slice_index text 0 == 45) && (not (slice_index text 0 == 48) || (length text == 1))

-- the number where it isn't negative and below 2^62
abbrev pub low_number : Option ℤ → Option ℕ
low_number None = None
low_number (Some (pos n)) = if nat_lt n (2 ^ 62) then Some n else None
low_number (Some (negsuc n)) = None

-- the number below 2^62 that the text writes, without a sign or a leading zero
abbrev pub number_in : List ℕ → Option ℕ
number_in text = if is_bare text then low_number (decimal_value text) else None

-- the same of any bytes
abbrev pub number_of : List ℕ → Option ℕ
number_of bytes = if is_utf8 bytes then number_in bytes else None

-- the text writes a number below this one
abbrev pub IsBelow : ℕ → List ℕ → Type 0
IsBelow most text = IfSome (number_in text) (λ n. n < most) × IsSome (number_in text)

-- a level from 1 to 18
abbrev pub IsLevel : List ℕ → Type 0
IsLevel text = IfSome (number_in text) (λ n. (1 ≤ n) × (n ≤ 18)) × IsSome (number_in text)

-- a level, a dash, and a number
abbrev pub IsDelayFrom : List ℕ → Type 0
IsDelayFrom text = IfSome (until 45 text) (λ p. IsLevel p.0 × IsSome (number_in p.1)) × IsSome (until 45 text)

-- ---- one record

-- where the record has this property, its text is like this
abbrev pub IfHas : List ℕ → Entry → (List ℕ → Type 0) → Type 0
IfHas name r P = IfSome (value_of name r.props) P

-- the record has this property, and its text is like this
abbrev pub Has : List ℕ → Entry → (List ℕ → Type 0) → Type 0
Has name r P = IsSome (value_of name r.props) × IfHas name r P

-- a topic of clients
abbrev pub IsPlainTopic : List ℕ → Type 0
IsPlainTopic topic = (is_legal topic ≡ true) × (is_system_topic topic ≡ false)

-- a message that waits, for its time or for a verdict: it tells where it belongs, and has no transaction bit
pub record Waits (r : Entry) : Type 0 where
  pub topic : Has (codes "REAL_TOPIC") r IsPlainTopic
  pub queue : Has (codes "REAL_QID") r (IsBelow 1024)
  pub bits : bit_and r.sysflag 12 ≡ 0

-- A half message waits, tells its producer group, and can be renewed; one that is a renewal can be discarded.
pub record IsHalfMessage (S : ℕ) (r : Entry) : Type 0 where
  pub waits : Waits r
  pub group : IsSome (value_of (codes "PGROUP") r.props)
  pub renewed : CanBeRenewed S r
  pub discarded : IsSome (value_of (codes "TRAN_PREPARED_QUEUE_OFFSET") r.props) → CanBeDiscarded S r

-- a delayed message waits, and can be delivered
pub record IsDelayedMessage (S : ℕ) (r : Entry) : Type 0 where
  pub waits : Waits r
  pub delivered : CanBeDelivered S r

-- A record that a log in segments of S bytes may have, wherever it stands.
pub record IsAdmissible (S : ℕ) (r : Entry) : Type 0 where
  pub queue : r.queue < most_queues r.topic
  pub copy : bit_and r.sysflag 12 ≡ 8 → r.prepared < r.offset
  pub discard : bytes_eq r.topic discard_topic ≡ true → r.prepared < r.offset
  pub half : bytes_eq r.topic half_topic ≡ true → IsHalfMessage S r
  pub level : bytes_eq r.topic level_topic ≡ true → IsDelayedMessage S r
  pub op : bytes_eq r.topic op_topic ≡ true → IsSome (number_of r.body)
  pub renewal : IfHas (codes "TRAN_PREPARED_QUEUE_OFFSET") r (λ text. IsSome (number_in text))
  pub delivery : IfHas (codes "DELAY_FROM") r IsDelayFrom
  pub undelivered : is_system_topic r.topic ≡ true → value_of (codes "DELAY_FROM") r.props ≡ None

-- ---- the half message that a record names

-- the number in the text of this property
abbrev pub number_at : Option (List ℕ) → Option ℕ
number_at None = None
number_at (Some text) = number_in text

-- the queue offset of the half that the record names: an op record by its body, a renewal by its property
abbrev pub names_half : Entry → Option ℕ
names_half r = if bytes_eq r.topic op_topic then number_of r.body
    else (if bytes_eq r.topic half_topic then number_at (value_of (codes "TRAN_PREPARED_QUEUE_OFFSET") r.props) else None)

-- it names one of so many halves, or none
abbrev pub NamesEarlier : ℕ → Entry → Type 0
NamesEarlier halves r = IfSome (names_half r) (λ n. n < halves)
