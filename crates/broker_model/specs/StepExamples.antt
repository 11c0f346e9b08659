-- Worked steps: what the state becomes, and what is answered, event by event.
use Rattle.std.specs.Prelude.{◌≡◌, ℕ, zero, suc, ◌+◌, ◌++◌, List, [], ◌∷◌, length, map, codes, ℤ, pos, Some, None, refl}
use Rattle.std.specs.Fmt.{digits}
use Rattle.std.specs.Str.{chars}
use Rattle.request_fields.specs.Clients.{Beat}
use Rattle.mq_bytes.specs.Decimal.{decimal_value}
use Rattle.mq_bytes.specs.Delays.{level_delay}
use Rattle.mq_bytes.specs.Hashes.{key_hash, java_hash}
use Rattle.request_fields.specs.declared.clients.QueueName.{QueueName}
use Rattle.record_codec.specs.Layout.{size}
use Rattle.record_codec.specs.LaxProps.{read_props, pieces}
use Rattle.record_codec.specs.Props.{pair_in, until}
use Rattle.log_model.specs.Numbered.{queue_max}
use Rattle.log_model.specs.Keys.{query_of}
use Rattle.log_model.specs.Transactions.{TransactionState, Open, Discarded, transaction_state}
use Rattle.log_model.specs.Admissible.{half_topic}
use Rattle.request_fields.specs.declared.request.Request.{Request}
use Rattle.request_fields.specs.declared.request.Request.TheVariants.{Send, Pull, SetOffset, MakeTopic, Lock}
use Rattle.broker_model.specs.Tables.{LockRow, granted, with_locks, without_locks, queues_in}
use Rattle.broker_model.specs.Clients.{no_clients, after_beat, after_unregister, after_leave, producer_link, heard_words}
use Rattle.broker_model.specs.State.{State}
use Rattle.broker_model.specs.Events
use Rattle.broker_model.specs.Refusals.{refusal_of}
use Rattle.broker_model.specs.Appended.{appended, is_refused, drafts_of}
use Rattle.broker_model.specs.Answers.{answer_of, carried_out_answer, request_answer, offset_at, viewed}
use Rattle.broker_model.specs.Step.{after, changed, request_changed}
use Rattle.broker_model.specs.Run.{crashed}
use Rattle.broker_model.specs.Examples.{broker, hi, draft_of_hi, fresh, asks, half_props, half_log, delayed_log, stored_at, remark_of}

-- the state after some events
abbrev pub outcome : State → List Events.Event → State
outcome s [] = s
outcome s (e ∷ events) = outcome (after s e) events

-- `hi` with these properties is sent
abbrev pub sends : List ℕ → Events.Event
sends props = asks (Send (hi props))

-- ---- a flush turn that fails, and one that doesn't

-- a message was sent, and the turn that took it failed as the disk's first failure
abbrev pub failed_once : State
failed_once = outcome (fresh []) (sends [] ∷ Events.Take ∷ Events.FlushFailed 1 ∷ [])

pub look_says_failed : answer_of failed_once (Events.Look 0 1) ≡ Events.Looked (Events.HasFailed 1)
unfolding read_props pieces pair_in until decimal_value digits after changed request_changed is_refused drafts_of refusal_of
    answer_of carried_out_answer
look_says_failed = refl

pub look_by_a_later_asker_says_nothing_yet : answer_of failed_once (Events.Look 0 2) ≡ Events.Looked Events.NotYet
unfolding read_props pieces pair_in until decimal_value digits after changed request_changed is_refused drafts_of refusal_of
    answer_of carried_out_answer
look_by_a_later_asker_says_nothing_yet = refl

-- another message was sent, and a turn took both and ended
abbrev pub flushed_both : State
flushed_both = outcome failed_once (sends [] ∷ Events.Take ∷ Events.Flushed 2 ∷ [])

pub look_says_flushed : answer_of flushed_both (Events.Look 1 2) ≡ Events.Looked Events.IsFlushed
unfolding read_props pieces pair_in until decimal_value digits after changed request_changed is_refused drafts_of refusal_of
    answer_of carried_out_answer
look_says_flushed = refl

pub dispatch_moves_one_by_one : answer_of flushed_both (Events.Dispatch 1) ≡ Events.Moved 1
unfolding read_props pieces pair_in until decimal_value digits after changed request_changed is_refused drafts_of refusal_of
    answer_of carried_out_answer
dispatch_moves_one_by_one = refl

-- ---- check-backs

pub no_check_before_6000 : appended (fresh half_log) (Events.Check 6999) ≡ []
unfolding read_props pieces pair_in until decimal_value digits appended is_refused drafts_of refusal_of
no_check_before_6000 = refl

-- how many halves a half message and its check-backs are, after checks at these times
abbrev pub halves_after : List Events.Event → ℕ
halves_after events = queue_max (outcome (fresh half_log) events).log half_topic 0

pub check_at_7000 : halves_after (Events.Check 7000 ∷ []) ≡ 2
unfolding read_props pieces pair_in until decimal_value digits after changed is_refused drafts_of refusal_of
check_at_7000 = refl

pub next_check_at_67000 : halves_after (Events.Check 7000 ∷ Events.Check 66999 ∷ Events.Check 67000 ∷ []) ≡ 3
unfolding read_props pieces pair_in until decimal_value digits after changed is_refused drafts_of refusal_of
next_check_at_67000 = refl

-- checks once a minute, so many of them
abbrev pub minutes : ℕ → ℕ → List Events.Event
minutes time zero = []
minutes time (suc n) = Events.Check time ∷ minutes (time + 60000) n

pub fifteen_check_backs : halves_after (minutes 7000 17) ≡ 16
unfolding read_props pieces pair_in until decimal_value digits after changed is_refused drafts_of refusal_of
fifteen_check_backs = refl

-- what became of the half message after so many checks
abbrev pub state_after : ℕ → TransactionState
state_after n = transaction_state (outcome (fresh half_log) (minutes 7000 n)).log.records 0

pub open_after_fifteen : state_after 15 ≡ Open
unfolding read_props pieces pair_in until decimal_value digits after changed is_refused drafts_of refusal_of
open_after_fifteen = refl

pub discarded_after_sixteen : state_after 16 ≡ Discarded
unfolding read_props pieces pair_in until decimal_value digits after changed is_refused drafts_of refusal_of
discarded_after_sixteen = refl

-- ---- deliveries

pub no_delivery_before_its_time : appended (fresh delayed_log) (Events.Deliver 1999) ≡ []
unfolding read_props pieces pair_in until decimal_value digits appended is_refused drafts_of refusal_of level_delay
no_delivery_before_its_time = refl

pub delivery_has_123_bytes : map size (appended (fresh delayed_log) (Events.Deliver 2000)) ≡ 123 ∷ []
unfolding read_props pieces pair_in until decimal_value digits appended is_refused drafts_of refusal_of level_delay
delivery_has_123_bytes = refl

pub delivery_at_2000 : map (λ r. r.offset) (appended (fresh delayed_log) (Events.Deliver 2000)) ≡ 158 ∷ []
unfolding read_props pieces pair_in until decimal_value digits appended is_refused drafts_of refusal_of level_delay
delivery_at_2000 = refl

pub no_second_delivery : appended (outcome (fresh delayed_log) (Events.Deliver 2000 ∷ [])) (Events.Deliver 5000) ≡ []
unfolding read_props pieces pair_in until decimal_value digits after changed appended is_refused drafts_of refusal_of level_delay
no_second_delivery = refl

-- ---- queries by key, and views

-- the property KEYS
abbrev pub keys : List ℕ → List ℕ
keys words = codes "KEYS" ++ 1 ∷ words

-- two records, whose keys have one hash
abbrev pub keyed : State
keyed = fresh (stored_at 1000 (draft_of_hi (keys (codes "Aa")) ∷ draft_of_hi (keys (codes "BB")) ∷ []))

-- the queue offsets of what a query finds
abbrev pub found_by : List ℕ → ℤ → List ℕ
found_by key most = map (λ r. r.queue_offset) (query_of keyed.log.records (codes "T") key (pos 0) (pos 9000) most)

pub one_hash_finds_both : found_by (codes "Aa") (pos 32) ≡ 0 ∷ 1 ∷ []
unfolding read_props pieces pair_in until decimal_value digits key_hash java_hash chars
one_hash_finds_both = refl

pub the_newest_is_found : found_by (codes "Aa") (pos 1) ≡ 1 ∷ []
unfolding read_props pieces pair_in until decimal_value digits key_hash java_hash chars
the_newest_is_found = refl

pub another_key_finds_none : found_by (codes "C") (pos 32) ≡ []
unfolding read_props pieces pair_in until decimal_value digits key_hash java_hash chars
another_key_finds_none = refl

pub view_of_0 : length (viewed keyed.log.records 0) ≡ 1
unfolding read_props pieces pair_in until decimal_value digits
view_of_0 = refl

pub view_of_5 : length (viewed keyed.log.records 5) ≡ 0
unfolding read_props pieces pair_in until decimal_value digits
view_of_5 = refl

-- ---- locks

-- queue 0 of T
abbrev pub queue_0 : QueueName
queue_0 = record { topic = codes "T"; broker = codes "b"; queue = 0 }

-- client A got the queue at this reading of the clock
abbrev pub locked_by_a_at : ℕ → List LockRow
locked_by_a_at now = with_locks now (codes "G") (codes "A") (granted now (codes "G") (codes "A") [] (queue_0 ∷ [])) []

-- client A got the queue at 0
abbrev pub locked_by_a : List LockRow
locked_by_a = locked_by_a_at 0

pub lock_is_kept_for_a_minute : granted 60000 (codes "G") (codes "B") locked_by_a (queue_0 ∷ []) ≡ []
lock_is_kept_for_a_minute = refl

pub lock_is_kept_as_the_clock_is_set_back_a_minute : granted 0 (codes "G") (codes "B") (locked_by_a_at 60000) (queue_0 ∷ []) ≡ []
lock_is_kept_as_the_clock_is_set_back_a_minute = refl

pub clock_set_back_further_frees_the_lock : granted 0 (codes "G") (codes "B") (locked_by_a_at 60001) (queue_0 ∷ []) ≡ queue_0 ∷ []
clock_set_back_further_frees_the_lock = refl

pub foreign_unlock_changes_nothing : without_locks (codes "G") (codes "B") (queue_0 ∷ []) locked_by_a ≡ locked_by_a
foreign_unlock_changes_nothing = refl

-- a client asks for the queue at this reading of the clock
abbrev pub locks_at : ℕ → List ℕ → Events.Event
locks_at now client = Events.Asks (record {
  link = 0;
  host = broker;
  now = now;
  request = Lock (record { group = codes "G"; client = client; queues = queue_0 ∷ [] });
})

-- the time of the broker is far ahead, and A gets the queue at 0
abbrev pub locked_far_ahead : State
locked_far_ahead = outcome (record (fresh []) { now = 4000000000000 }) (locks_at 0 (codes "A") ∷ [])

pub lock_is_kept_while_the_time_is_ahead : answer_of locked_far_ahead (locks_at 60000 (codes "B")) ≡ Events.Locked []
unfolding answer_of carried_out_answer request_answer is_refused drafts_of refusal_of after changed request_changed
lock_is_kept_while_the_time_is_ahead = refl

pub lock_expires_while_the_time_is_ahead : answer_of locked_far_ahead (locks_at 60001 (codes "B")) ≡ Events.Locked (queue_0 ∷ [])
unfolding answer_of carried_out_answer request_answer is_refused drafts_of refusal_of after changed request_changed
lock_expires_while_the_time_is_ahead = refl

pub expired_lock_is_granted : granted 60001 (codes "G") (codes "B") locked_by_a (queue_0 ∷ []) ≡ queue_0 ∷ []
expired_lock_is_granted = refl

-- ---- clients

-- client c1 with the producer group P, which consumes T for G
abbrev pub beat : Beat
beat = record {
  client = codes "c1";
  producers = codes "P" ∷ [];
  consumers = record { group = codes "G"; subscriptions = record { topic = codes "T"; words = codes "*" } ∷ [] } ∷ [];
}

pub producer_is_found : producer_link (after_beat 7 beat no_clients) (codes "P") ≡ Some 7
producer_is_found = refl

pub subscription_is_heard : heard_words (after_beat 7 beat no_clients) (codes "G") (codes "T") ≡ codes "*"
subscription_is_heard = refl

pub link_takes_its_clients : after_leave 7 (after_beat 7 beat no_clients) ≡ no_clients
link_takes_its_clients = refl

pub client_without_groups_is_dropped : after_unregister (codes "c1") (codes "P") (codes "G") (after_beat 7 beat no_clients) ≡ no_clients
client_without_groups_is_dropped = refl

-- ---- offsets, searches and topics

-- two records, stored at 1000 and at 3000
abbrev pub two_times : State
two_times = outcome (fresh []) (sends [] ∷ Events.Asks (record { link = 0; host = broker; now = 3000; request = Send (hi []) })
    ∷ Events.Take ∷ Events.Flushed 2 ∷ Events.Dispatch 2 ∷ [])

-- the offset by this time
abbrev pub offset_by : ℤ → ℕ
offset_by time = offset_at two_times.log (codes "T") 0 time

pub search_from_0 : offset_by (pos 0) ≡ 0
unfolding read_props pieces pair_in until decimal_value digits after changed request_changed is_refused drafts_of refusal_of
search_from_0 = refl

pub search_from_1001 : offset_by (pos 1001) ≡ 1
unfolding read_props pieces pair_in until decimal_value digits after changed request_changed is_refused drafts_of refusal_of
search_from_1001 = refl

pub search_from_3001 : offset_by (pos 3001) ≡ 2
unfolding read_props pieces pair_in until decimal_value digits after changed request_changed is_refused drafts_of refusal_of
search_from_3001 = refl

-- group G stores this offset of the queue
abbrev pub stores : ℕ → Events.Event
stores offset = asks (SetOffset (record { group = codes "G"; topic = codes "T"; queue = 0; offset = offset }))

pub offset_9_is_stored_as_2 : map (λ row. row.offset) (outcome two_times (stores 9 ∷ [])).offsets ≡ 2 ∷ []
unfolding read_props pieces pair_in until decimal_value digits after changed request_changed is_refused drafts_of refusal_of
offset_9_is_stored_as_2 = refl

-- a topic U with 2 queues for readers and 3 for writers
abbrev pub makes_topic : Events.Event
makes_topic = asks (MakeTopic (record { topic = codes "U"; read = 2; write = 3 }))

pub topic_has_the_greater_count : queues_in (outcome (fresh []) (makes_topic ∷ [])).topics (codes "U") ≡ Some 3
unfolding read_props pieces pair_in until decimal_value digits after changed request_changed is_refused drafts_of refusal_of
topic_has_the_greater_count = refl

-- a pull of a queue of a topic, chosen in this way
abbrev pub pull_by : List ℕ → List ℕ → ℕ → Request
pull_by expression topic queue = Pull (record {
  group = codes "G";
  topic = topic;
  queue = queue;
  from = pos 0;
  most = pos 32;
  sysflag = pos 0;
  commit = pos 0;
  suspend = pos 0;
  subscription = [];
  expression = expression;
})

pub queue_4_is_refused : remark_of [] (pull_by [] (codes "T") 4) ≡ Some (codes "queue")
unfolding refusal_of
queue_4_is_refused = refl

pub unknown_topic_is_refused : remark_of [] (pull_by [] (codes "U") 0) ≡ Some (codes "no topic")
unfolding refusal_of
unknown_topic_is_refused = refl

pub half_messages_are_not_pulled : remark_of [] (pull_by [] half_topic 0) ≡ Some (codes "system topic")
unfolding refusal_of
half_messages_are_not_pulled = refl

pub expression_is_refused : remark_of [] (pull_by (codes "SQL92") (codes "T") 0) ≡ Some (codes "expression")
unfolding refusal_of
expression_is_refused = refl

-- ---- a crash

-- a half message and `hi` were sent, and a turn took both; a crash then kept the first record alone
abbrev pub crashed_in_a_turn : State
crashed_in_a_turn = crashed (outcome (fresh []) (sends half_props ∷ sends [] ∷ Events.Take ∷ [])) 1 (fresh []).setup

pub crash_keeps_the_front : map size crashed_in_a_turn.log.records ≡ 178 ∷ []
unfolding read_props pieces pair_in until decimal_value digits after changed request_changed is_refused drafts_of refusal_of
crash_keeps_the_front = refl

pub crash_knows_the_topic_of_a_half : queues_in crashed_in_a_turn.topics (codes "T") ≡ Some 4
unfolding read_props pieces pair_in until decimal_value digits after changed request_changed is_refused drafts_of refusal_of
crash_knows_the_topic_of_a_half = refl

pub crash_leaves_no_turn : crashed_in_a_turn.out ≡ None
unfolding read_props pieces pair_in until decimal_value digits after changed request_changed is_refused drafts_of refusal_of
crash_leaves_no_turn = refl
