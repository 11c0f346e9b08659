-- What every log of a run has, as far as halves and their copies need it.
use Rattle.std.specs.Prelude.{◌≡◌, ℕ, ◌+◌, ◌<◌, ◌≤◌, ◌^◌, ◌||◌, List, take, length}
use Rattle.std.specs.Prelude.{slice_get, codes, bit_and, true, false, Option, Some, None}
use Rattle.mq_bytes.specs.Decimal.{digits_of}
use Rattle.record_codec.specs.Entry.{Entry}
use Rattle.record_codec.specs.Layout.{size}
use Rattle.record_codec.specs.Props.{value_of}
use Rattle.log_model.specs.Admissible.{is_system_topic, half_topic}
use Rattle.log_model.specs.Bases.{Base}
use Rattle.log_model.specs.Drafts.{text_in}
use Rattle.log_model.specs.Kinds.{is_half, is_delayed, is_copy, is_discard, origin_text}
use Rattle.log_model.specs.Log.{end_from}
use Rattle.log_model.specs.Numbered.{Log}
use Rattle.log_model.specs.Queues.{queue_of, queue_end}
use Rattle.log_model.specs.Transactions.{is_renewal, names_it}
use Rattle.broker_model.specs.State.{State}
use Rattle.broker_model.specs.Run.{Boot, IsOfBoot}
use Rattle.core_laws.specs.Sound.{IsSoundBoot}

-- the text, if any, is the digits of a number of 64 bits
abbrev pub IsNumberText : Option (List ℕ) → Type 0
IsNumberText None = Unit {0}
IsNumberText (Some text) = (k : ℕ) × (k < 2 ^ 64) × (text ≡ digits_of k)

-- Its place is behind each of these; a copy and a discarded half name a place before their own; a message that waits has no
-- transaction bit, is for a topic of clients and is no delivery; a half message has a queue offset of 64 bits, and so has the origin
-- that it names; a delayed message is in the queue of a level, with a queue offset of 64 bits.
pub record IsKeptBehind (earlier : List Entry) (r : Entry) : Type 0 where
  pub place : (i : ℕ) (x : Entry) → slice_get earlier i ≡ Some x → x.offset + size x ≤ r.offset
  pub prepared : (is_copy r || is_discard r) ≡ true → r.prepared < r.offset
  pub bits : (is_half r || is_delayed r) ≡ true → bit_and r.sysflag 12 ≡ 0
  pub real : (is_half r || is_delayed r) ≡ true → is_system_topic (text_in (codes "REAL_TOPIC") r.props) ≡ false
  pub low : is_half r ≡ true → r.queue_offset < 2 ^ 64
  pub text : is_half r ≡ true → IsNumberText (origin_text r)
  pub undelivered : (is_half r || is_delayed r) ≡ true → value_of (codes "DELAY_FROM") r.props ≡ None
  pub level : is_delayed r ≡ true → (r.queue < 18) × (r.queue_offset < 2 ^ 64)

-- A half message is in the one queue of its topic, its queue offset counts the half messages before it, removed ones too, and where it
-- is a renewal it names one of these.
pub record IsHalfBehind (base : Base) (earlier : List Entry) (r : Entry) : Type 0 where
  pub queue : r.queue ≡ 0
  pub queue_offset : r.queue_offset ≡ queue_end base earlier half_topic 0
  pub names : (h : ℕ) → h < 2 ^ 64 → is_renewal h r ≡ true → h < queue_end base earlier half_topic 0

-- Its queue offset counts the records of its queue before it, removed ones too, and an op record names one of the half messages
-- before it.
pub record IsCountedBehind (base : Base) (earlier : List Entry) (r : Entry) : Type 0 where
  pub queue_offset : r.queue_offset ≡ queue_end base earlier r.topic r.queue
  pub names : (h : ℕ) → h < 2 ^ 64 → names_it h r ≡ true → h < queue_end base earlier half_topic 0

-- Each record stands so behind those before it, and no queue has more records than there are places.
pub record IsKept (log : Log) : Type 0 where
  pub each : (i : ℕ) (r : Entry) → slice_get log.records i ≡ Some r → IsKeptBehind (take i log.records) r
  pub halves : (i : ℕ) (r : Entry) → slice_get log.records i ≡ Some r → is_half r ≡ true → IsHalfBehind log.base (take i log.records) r
  pub counts : (i : ℕ) (r : Entry) → slice_get log.records i ≡ Some r → IsCountedBehind log.base (take i log.records) r
  pub counted : (k : ℕ) (topic : List ℕ) (queue : ℕ)
      → log.base.queues topic queue + length (queue_of (take k log.records) topic queue) ≤ end_from log.base.place (take k log.records)

-- the logs of all states of the boot are so, and the saved base counts no more records than there are places before it
pub record IsKeptBoot (b : Boot) : Type 0 where
  pub sound : IsSoundBoot b
  pub segment : 0 < b.now.setup.segment
  pub logs : (s : State) → IsOfBoot b s → IsKept s.log
  pub saved : (topic : List ℕ) (queue : ℕ) → b.now.saved.base.queues topic queue ≤ b.now.saved.base.place
