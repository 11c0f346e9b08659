-- Worked sizes, places, replies and states: what the definitions compute. Unless said otherwise `hi` is sent to queue 0 of the
-- topic `T` by the group `P`, from host 127.0.0.1 and to it.
use Rattle.std.specs.Prelude.{◌≡◌, ℕ, ◌++◌, List, [], ◌∷◌, length, map, take, option_map}
use Rattle.std.specs.Prelude.{codes, ℤ, pos, negsuc, true, Option, Some, None, refl}
use Rattle.std.specs.Fmt.{digits}
use Rattle.std.specs.Str.{chars}
use Rattle.mq_bytes.specs.Decimal.{decimal_value}
use Rattle.mq_bytes.specs.Hashes.{java_hash}
use Rattle.record_codec.specs.Entry.{Entry}
use Rattle.record_codec.specs.Layout.{size}
use Rattle.record_codec.specs.Units.{tag_code}
use Rattle.record_codec.specs.Drafts.{draft_size}
use Rattle.record_codec.specs.LaxProps.{read_props, pieces}
use Rattle.record_codec.specs.Props.{pair_in, until}
use Rattle.record_codec.specs.declared.draft.Draft.{Draft}
use Rattle.log_model.specs.Bases.{no_base}
use Rattle.log_model.specs.Numbered.{Log, with_appended, next_records}
use Rattle.log_model.specs.Pulls.{words_in, pull_reply}
use Rattle.log_model.specs.Transactions.{Open, Committed, transaction_state, copies}
use Rattle.log_model.specs.Drafts.{copy_draft, op_draft, delivery_draft}
use Rattle.request_fields.specs.Requests.{SendSaid}
use Rattle.request_fields.specs.declared.request.Request.{Request}
use Rattle.request_fields.specs.declared.request.Request.TheVariants.{EndTransaction}
use Rattle.broker_model.specs.Clients.{no_clients}
use Rattle.broker_model.specs.State.{State}
use Rattle.broker_model.specs.Sends.{send_draft}
use Rattle.broker_model.specs.Events
use Rattle.broker_model.specs.Refusals.{refusal_of}
use Rattle.broker_model.specs.Appended.{appended, is_refused, drafts_of}

-- ---- what is sent, and where

-- the host 127.0.0.1 with the port 10911
abbrev pub broker : List ℕ
broker = 127 ∷ 0 ∷ 0 ∷ 1 ∷ 0 ∷ 0 ∷ 42 ∷ 159 ∷ []

-- `hi` with this property text
abbrev pub hi : List ℕ → SendSaid
hi props = record {
  group = codes "P";
  topic = codes "T";
  queue = pos 0;
  sysflag = pos 0;
  born = 1000;
  flag = pos 0;
  default_topic = codes "TBW102";
  default_queues = pos 4;
  props = props;
  reconsume = pos 0;
  body = codes "hi";
}

-- the draft of `hi`
abbrev pub draft_of_hi : List ℕ → Draft
draft_of_hi props = send_draft broker broker (hi props)

-- no record, from the first place on
abbrev pub no_log : Log
no_log = record { base = no_base; records = [] }

-- the records of drafts that were stored at this time, in a log that begins with them
abbrev pub stored_at : ℕ → List Draft → List Entry
stored_at now drafts = next_records 1073741824 now no_log drafts

-- ---- a half message, its copy and its op record

-- the properties TRAN_MSG `true` and PGROUP `P`
abbrev pub half_props : List ℕ
half_props = codes "TRAN_MSG" ++ 1 ∷ (codes "true" ++ 2 ∷ (codes "PGROUP" ++ 1 ∷ (codes "P" ++ 2 ∷ [])))

-- a half message, stored at 1000
abbrev pub half_log : List Entry
half_log = stored_at 1000 (draft_of_hi half_props ∷ [])

pub half_takes_178 : map size half_log ≡ 178 ∷ []
unfolding read_props pieces pair_in until decimal_value digits
half_takes_178 = refl

-- what the first Commit of a half appends
abbrev pub copy_and_op : Entry → List Draft
copy_and_op r = copy_draft broker r ∷ op_draft broker 1000 0 ∷ []

-- the log once its first record was committed
abbrev pub settled_log : List Entry → List Entry
settled_log [] = []
settled_log (r ∷ log) = (r ∷ log) ++ next_records 1073741824 1000 (with_appended no_log (r ∷ log)) (copy_and_op r)

pub places_of_a_commit : map (λ r. r.offset) (settled_log half_log) ≡ 0 ∷ 178 ∷ 295 ∷ []
unfolding read_props pieces pair_in until decimal_value digits
places_of_a_commit = refl

pub sizes_of_a_commit : map size (settled_log half_log) ≡ 178 ∷ 117 ∷ 140 ∷ []
unfolding read_props pieces pair_in until decimal_value digits
sizes_of_a_commit = refl

pub open_before : transaction_state half_log 0 ≡ Open
unfolding read_props pieces pair_in until decimal_value digits
open_before = refl

pub committed_after : transaction_state (settled_log half_log) 0 ≡ Committed
unfolding read_props pieces pair_in until decimal_value digits
committed_after = refl

pub one_copy : copies (settled_log half_log) 0 ≡ 1
unfolding read_props pieces pair_in until decimal_value digits
one_copy = refl

-- a crash that kept the copy without its op record: a copy settles its half
pub kept_copy_settles : transaction_state (take 2 (settled_log half_log)) 0 ≡ Committed
unfolding read_props pieces pair_in until decimal_value digits
kept_copy_settles = refl

-- ---- a delayed message and its delivery

-- a message with the delay level 1, stored at 1000
abbrev pub delayed_log : List Entry
delayed_log = stored_at 1000 (draft_of_hi (codes "DELAY" ++ 1 ∷ codes "1") ∷ [])

pub delayed_takes_158 : map size delayed_log ≡ 158 ∷ []
unfolding read_props pieces pair_in until decimal_value digits
delayed_takes_158 = refl

-- the delivery of the first record as the first of level 1
abbrev pub delivered : List Entry → List Draft
delivered [] = []
delivered (r ∷ log) = delivery_draft broker 1 0 r ∷ []

pub delivery_takes_123 : map draft_size (delivered delayed_log) ≡ 123 ∷ []
unfolding read_props pieces pair_in until decimal_value digits
delivery_takes_123 = refl

-- the queue of the record of `hi` with this DELAY
abbrev pub queue_by_delay : List ℕ → ℕ
queue_by_delay text = (draft_of_hi (codes "DELAY" ++ 1 ∷ text)).queue

pub level_19_is_level_18 : queue_by_delay (codes "19") ≡ 17
unfolding read_props pieces pair_in until decimal_value digits
level_19_is_level_18 = refl

-- the topic of the record of `hi` with this DELAY
abbrev pub topic_by_delay : List ℕ → List ℕ
topic_by_delay text = (draft_of_hi (codes "DELAY" ++ 1 ∷ text)).topic

pub level_0_is_no_delay : topic_by_delay (codes "0") ≡ codes "T"
unfolding read_props pieces pair_in until decimal_value digits
level_0_is_no_delay = refl

pub level_x_is_no_delay : topic_by_delay (codes "x") ≡ codes "T"
unfolding read_props pieces pair_in until decimal_value digits
level_x_is_no_delay = refl

-- ---- pulls of one record, from its queue's offsets and from another queue

-- one record, stored at 2000
abbrev pub one_record : Log
one_record = with_appended no_log (stored_at 2000 (draft_of_hi [] ∷ []))

-- the code and the next offset of a pull
abbrev pub pull_at : ℕ → ℤ → ℕ × ℕ
pull_at queue from = let p = pull_reply one_record (codes "T") queue from (pos 32) [] in (p.code, p.next)

pub found_at_0 : pull_at 0 (pos 0) ≡ (0, 1)
unfolding read_props pieces pair_in until decimal_value digits
found_at_0 = refl

pub at_the_end : pull_at 0 (pos 1) ≡ (19, 1)
unfolding read_props pieces pair_in until decimal_value digits
at_the_end = refl

pub past_the_end : pull_at 0 (pos 2) ≡ (21, 1)
unfolding read_props pieces pair_in until decimal_value digits
past_the_end = refl

pub before_the_start : pull_at 0 (negsuc 0) ≡ (21, 0)
unfolding read_props pieces pair_in until decimal_value digits
before_the_start = refl

pub empty_queue : pull_at 1 (pos 0) ≡ (19, 0)
unfolding read_props pieces pair_in until decimal_value digits
empty_queue = refl

-- ---- pulls by tags of four records, with the tags TagA, TagB, TagC and none

pub subscribed_words : words_in (codes "TagA || TagB") ≡ codes "TagA" ∷ codes "TagB" ∷ []
subscribed_words = refl

pub tag_a : java_hash (codes "TagA") ≡ pos 2598919
unfolding java_hash chars
tag_a = refl

-- the draft of `hi` with this tag
abbrev pub tagged : List ℕ → Draft
tagged tag = draft_of_hi (codes "TAGS" ++ 1 ∷ tag)

-- the four records
abbrev pub four_records : Log
four_records = with_appended no_log
    (stored_at 1000 (tagged (codes "TagA") ∷ tagged (codes "TagB") ∷ tagged (codes "TagC") ∷ draft_of_hi [] ∷ []))

-- the code, the next offset, and the queue offsets of the records of a pull
abbrev pub pull_of_tags : ℤ → List ℕ → ℕ × ℕ × List ℕ
pull_of_tags most text =
    let p = pull_reply four_records (codes "T") 0 (pos 0) most text in (p.code, p.next, map (λ r. r.queue_offset) p.taken)

pub two_of_four : pull_of_tags (pos 32) (codes "TagA || TagB") ≡ (0, 4, 0 ∷ 1 ∷ [])
unfolding read_props pieces pair_in until decimal_value digits java_hash chars tag_code
two_of_four = refl

pub none_of_four : pull_of_tags (pos 32) (codes "TagZ") ≡ (20, 4, [])
unfolding read_props pieces pair_in until decimal_value digits java_hash chars tag_code
none_of_four = refl

pub one_of_four : pull_of_tags (pos 1) (codes "TagB") ≡ (0, 2, 1 ∷ [])
unfolding read_props pieces pair_in until decimal_value digits java_hash chars tag_code
one_of_four = refl

-- ---- whole steps of a verdict

-- a state with these records, all of them on the disk and dispatched
abbrev pub fresh : List Entry → State
fresh records = record {
  setup = record { segment = 1073741824; host = broker; sync = true };
  log = record { base = no_base; records = records };
  flushed = length records;
  dispatched = length records;
  out = None;
  turns = 1;
  failed = [];
  topics = record { topic = codes "T"; queues = 4 } ∷ [];
  offsets = [];
  locks = [];
  clients = no_clients;
  now = 1000;
  saved = record { offsets = []; topics = []; base = no_base };
}

-- a request at 1000
abbrev pub asks : Request → Events.Event
asks request = Events.Asks (record { link = 0; host = broker; now = 1000; request = request })

-- a verdict of a group on a half message by its queue offset and place
abbrev pub verdict_by : List ℕ → ℕ → ℕ → ℕ → Request
verdict_by group verdict n place =
    EndTransaction (record { group = group; queue_offset = n; place = place; verdict = verdict; msg_id = [] })

-- a Commit of the half message
abbrev pub commit : Request
commit = verdict_by (codes "P") 8 0 0

pub commit_appends_two : map (λ r. r.offset) (appended (fresh half_log) (asks commit)) ≡ 178 ∷ 295 ∷ []
unfolding read_props pieces pair_in until decimal_value digits appended is_refused drafts_of refusal_of
commit_appends_two = refl

pub commit_again_appends_none : appended (fresh (settled_log half_log)) (asks commit) ≡ []
unfolding read_props pieces pair_in until decimal_value digits appended is_refused drafts_of refusal_of
commit_again_appends_none = refl

pub commit_of_a_kept_copy_appends_none : appended (fresh (take 2 (settled_log half_log))) (asks commit) ≡ []
unfolding read_props pieces pair_in until decimal_value digits appended is_refused drafts_of refusal_of
commit_of_a_kept_copy_appends_none = refl

-- the remark of a refusal in a log of these records
abbrev pub remark_of : List Entry → Request → Option (List ℕ)
remark_of records request = option_map (λ reply. reply.remark) (refusal_of (fresh records) request)

pub commit_of_no_half_is_refused : remark_of half_log (verdict_by (codes "P") 8 1 0) ≡ Some (codes "half")
unfolding read_props pieces pair_in until decimal_value digits refusal_of
commit_of_no_half_is_refused = refl

pub commit_by_another_group_is_refused : remark_of half_log (verdict_by (codes "Q") 8 0 0) ≡ Some (codes "half")
unfolding read_props pieces pair_in until decimal_value digits refusal_of
commit_by_another_group_is_refused = refl

pub rollback_after_a_commit_is_refused :
    remark_of (settled_log half_log) (verdict_by (codes "P") 12 0 0) ≡ Some (codes "settled committed")
unfolding read_props pieces pair_in until decimal_value digits refusal_of
rollback_after_a_commit_is_refused = refl
