-- The records that the broker makes of a record of its log, each without its place: what a half or delayed message becomes.
use Rattle.std.specs.Prelude.{ℕ, List, [], ◌∷◌, ◌++◌, codes, pos, bit_and, bit_or, unwrap_or}
use Rattle.std.specs.Str.Parse.{digits_value}
use Rattle.mq_bytes.specs.Decimal.{digits_of}
use Rattle.record_codec.specs.Entry.{Entry}
use Rattle.record_codec.specs.Props.{value_of, with_prop, without}
use Rattle.record_codec.specs.declared.draft.Draft.{Draft}
use Rattle.log_model.specs.Admissible.{op_topic, discard_topic}

-- the system flag without the bits of a transaction
abbrev pub plain_flag : ℕ → ℕ
plain_flag flag = bit_and flag 0xFFFF_FFF3

-- the value of a property, and nothing where it is absent
abbrev pub text_in : List ℕ → List (List ℕ × List ℕ) → List ℕ
text_in name props = unwrap_or (value_of name props) []

-- the properties without the topic and the queue that the message is for
abbrev pub without_real : List (List ℕ × List ℕ) → List (List ℕ × List ℕ)
without_real props = without (codes "REAL_QID") (without (codes "REAL_TOPIC") props)

-- a record again, stored by this host
abbrev pub draft_again : List ℕ → Entry → Draft
draft_again store_host r = record {
  topic = r.topic;
  queue = r.queue;
  flag = r.flag;
  sysflag = r.sysflag;
  born = r.born;
  born_host = r.born_host;
  store_host = store_host;
  reconsume = r.reconsume;
  prepared = 0;
  body = r.body;
  props = r.props;
}

-- the message of a half or delayed record, in its own topic and queue
abbrev pub message_draft : List ℕ → Entry → Draft
message_draft store_host r = record (draft_again store_host r) {
  topic = text_in (codes "REAL_TOPIC") r.props;
  queue = digits_value 10 (text_in (codes "REAL_QID") r.props);
  props = without_real r.props;
}

-- the properties of a half message that only its transaction has a use for are dropped
abbrev pub without_transaction : List (List ℕ × List ℕ) → List (List ℕ × List ℕ)
without_transaction props =
    without (codes "TRAN_MSG") (without (codes "TRAN_PREPARED_QUEUE_OFFSET") (without (codes "TRANSACTION_CHECK_TIMES") props))

-- the copy of a half message that is committed, with the place of the half
abbrev pub copy_draft : List ℕ → Entry → Draft
copy_draft store_host half = record (message_draft store_host half) {
  sysflag = bit_or (plain_flag half.sysflag) 8;
  prepared = half.offset;
  props = without_transaction (without_real half.props);
}

-- the record that names a settled origin, made at this time
abbrev pub op_draft : List ℕ → ℕ → ℕ → Draft
op_draft store_host now origin = record {
  topic = op_topic;
  queue = 0;
  flag = pos 0;
  sysflag = 0;
  born = now;
  born_host = store_host;
  store_host = store_host;
  reconsume = pos 0;
  prepared = 0;
  body = digits_of origin;
  props = (codes "TAGS", codes "d") ∷ [];
}

-- the properties of an origin, with its queue offset and the number of a check-back
abbrev pub renewed_props : ℕ → Entry → List (List ℕ × List ℕ)
renewed_props n origin =
    with_prop (codes "TRANSACTION_CHECK_TIMES") (digits_of n)
    (with_prop (codes "TRAN_PREPARED_QUEUE_OFFSET") (digits_of origin.queue_offset) origin.props)

-- the half message again, for its n-th check-back
abbrev pub renewal_draft : List ℕ → ℕ → Entry → Draft
renewal_draft store_host n origin = record (draft_again store_host origin) { props = renewed_props n origin }

-- a half message that is discarded, with its place
abbrev pub discard_draft : List ℕ → Entry → Draft
discard_draft store_host half = record (draft_again store_host half) {
  topic = discard_topic;
  queue = 0;
  sysflag = plain_flag half.sysflag;
  prepared = half.offset;
}

-- the level of a delivery and its number in the level, with a dash between
abbrev pub delivery_text : ℕ → ℕ → List ℕ
delivery_text level number = digits_of level ++ 45 ∷ digits_of number

-- the delivery of a delayed message, with its number in its level
abbrev pub delivery_draft : List ℕ → ℕ → ℕ → Entry → Draft
delivery_draft store_host level number r = record (message_draft store_host r) {
  props = without (codes "DELAY") (without_real r.props) ++ (codes "DELAY_FROM", delivery_text level number) ∷ [];
}
