-- Which drafts may be appended to a kept log.
use Rattle.std.specs.Prelude.{◌≡◌, ℕ, ◌<◌, ◌^◌, ◌==◌, ◌||◌, codes, bit_and, true, false, None}
use Rattle.std.specs.Str.{bytes_eq}
use Rattle.mq_bytes.specs.Decimal.{digits_of}
use Rattle.record_codec.specs.Props.{value_of}
use Rattle.record_codec.specs.declared.draft.Draft.{Draft}
use Rattle.log_model.specs.Admissible.{half_topic, level_topic, op_topic, discard_topic, is_system_topic}
use Rattle.log_model.specs.Drafts.{text_in}
use Rattle.log_model.specs.Kinds.{is_text}
use Rattle.log_model.specs.Numbered.{Log, place_end, queue_max}
use Rattle.core_laws.specs.Kept.{IsNumberText}

-- A copy or a discarded half names a place in the log; a message that waits has no transaction bit, is for a topic of
-- clients and is no delivery; a half message is in the one queue of its topic and names an earlier one by a number of 64 bits, or
-- names none; a delayed message is in the queue of a level, and an op record names an earlier half message.
pub record IsFitDraft (log : Log) (d : Draft) : Type 0 where
  pub prepared : ((bit_and d.sysflag 12 == 8) || bytes_eq d.topic discard_topic) ≡ true → d.prepared < place_end log
  pub bits : (bytes_eq d.topic half_topic || bytes_eq d.topic level_topic) ≡ true → bit_and d.sysflag 12 ≡ 0
  pub real : (bytes_eq d.topic half_topic || bytes_eq d.topic level_topic) ≡ true
      → is_system_topic (text_in (codes "REAL_TOPIC") d.props) ≡ false
  pub text : bytes_eq d.topic half_topic ≡ true → IsNumberText (value_of (codes "TRAN_PREPARED_QUEUE_OFFSET") d.props)
  pub queue : bytes_eq d.topic half_topic ≡ true → d.queue ≡ 0
  pub names : bytes_eq d.topic half_topic ≡ true → (h : ℕ) → h < 2 ^ 64
      → is_text (digits_of h) (value_of (codes "TRAN_PREPARED_QUEUE_OFFSET") d.props) ≡ true → h < queue_max log half_topic 0
  pub level : bytes_eq d.topic level_topic ≡ true → d.queue < 18
  pub op : bytes_eq d.topic op_topic ≡ true → (h : ℕ) → h < 2 ^ 64 → bytes_eq d.body (digits_of h) ≡ true
      → h < queue_max log half_topic 0
  pub undelivered : (bytes_eq d.topic half_topic || bytes_eq d.topic level_topic) ≡ true → value_of (codes "DELAY_FROM") d.props ≡ None
