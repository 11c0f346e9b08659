-- Check-backs, and their bytes on the wire.
use Rattle.std.specs.Prelude.{◌≡◌, ℕ, ◌<◌, List, [], ◌∷◌, ℤ, pos, codes, true, Option, Some, None}
use Rattle.std.specs.Str.Parse.{digits_value}
use Rattle.mq_bytes.specs.Decimal.{digits_of}
use Rattle.mq_bytes.specs.Ids.{message_id_of}
use Rattle.record_codec.specs.Drafts.{entry_of, IsEncodable}
use Rattle.record_codec.specs.Layout.{layout, is_legal}
use Rattle.record_codec.specs.Props.{value_of}
use Rattle.record_codec.specs.declared.draft.Draft.{Draft}
use Rattle.record_codec.specs.declared.draft.Record.{Record}
use Rattle.remoting_frame.specs.Head.{Head}
use Rattle.remoting_frame.specs.Headers.{frame_bytes}
use Rattle.remoting_frame.specs.declared.frame.Form.TheVariants.{Json}

-- the value, or this text where there is none
abbrev pub text_or : List ℕ → Option (List ℕ) → List ℕ
text_or other None = other
text_or other (Some text) = text

-- the topic that the half message is for
abbrev pub real_topic : List (List ℕ × List ℕ) → List ℕ
real_topic props = text_or [] (value_of (codes "REAL_TOPIC") props)

-- the queue that it is for
abbrev pub real_queue : List (List ℕ × List ℕ) → ℕ
real_queue props = digits_value 10 (text_or [] (value_of (codes "REAL_QID") props))

-- the half message as the message that it will be: with its topic and its queue, and all else kept
abbrev pub real_draft : Draft → Draft
real_draft d = record {
  topic = real_topic d.props;
  queue = real_queue d.props;
  flag = d.flag;
  sysflag = d.sysflag;
  born = d.born;
  born_host = d.born_host;
  store_host = d.store_host;
  reconsume = d.reconsume;
  prepared = d.prepared;
  body = d.body;
  props = d.props;
}

-- What each check-back keeps of its record: its topic is legal, its queue is below 1,024 and written in decimal, and it
-- can be written as the message that it will be.
pub record IsAsked (r : Record) : Type 0 where
  pub topic : is_legal (real_topic r.draft.props) ≡ true
  pub queue : real_queue r.draft.props < 1024
  pub decimal : value_of (codes "REAL_QID") r.draft.props ≡ Some (digits_of (real_queue r.draft.props))
  pub encodable : IsEncodable (real_draft r.draft) r.place

-- the id that the broker gave the record
abbrev pub offset_id : Record → List ℕ
offset_id r = message_id_of r.draft.store_host r.place.offset

-- The fields of a check-back, in byte order. The sender's own id stands for the broker's where the record has one.
abbrev pub ask_fields : Record → List (List ℕ × List ℕ)
ask_fields r =
    (codes "commitLogOffset", digits_of r.place.offset)
    ∷ (codes "msgId", text_or (offset_id r) (value_of (codes "UNIQ_KEY") r.draft.props))
    ∷ (codes "offsetMsgId", offset_id r)
    ∷ (codes "tranStateTableOffset", digits_of r.place.queue_offset)
    ∷ (codes "transactionId", text_or [] (value_of (codes "UNIQ_KEY") r.draft.props))
    ∷ []

-- the header of the check-back with this opaque
abbrev pub ask_head : Record → ℤ → Head
ask_head r opaque = record { code = pos 39; version = pos 0; opaque = opaque; flag = pos 2; remark = []; ext = ask_fields r }

-- the frame of the check-back of this record
abbrev pub ask_bytes : ℤ → Record → List ℕ
ask_bytes opaque r = frame_bytes Json (ask_head r opaque) (layout (entry_of (real_draft r.draft) r.place))
