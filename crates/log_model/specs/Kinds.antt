-- What kind a record is: half messages, op records, discarded halves, delayed messages, committed copies and deliveries.
use Rattle.std.specs.Prelude.{ℕ, ◌==◌, List, codes, bit_and, Bool, false, Option, Some, None, option_map}
use Rattle.std.specs.Str.{bytes_eq}
use Rattle.mq_bytes.specs.Decimal.{digits_of}
use Rattle.record_codec.specs.Entry.{Entry}
use Rattle.record_codec.specs.Props.{value_of, until}
use Rattle.log_model.specs.Admissible.{half_topic, op_topic, discard_topic, level_topic}

-- half messages, op records, discarded half messages, and delayed messages
abbrev pub is_half : Entry → Bool
is_half r = bytes_eq r.topic half_topic

abbrev pub is_op : Entry → Bool
is_op r = bytes_eq r.topic op_topic

abbrev pub is_discard : Entry → Bool
is_discard r = bytes_eq r.topic discard_topic

abbrev pub is_delayed : Entry → Bool
is_delayed r = bytes_eq r.topic level_topic

-- a committed copy of a half message
abbrev pub is_copy : Entry → Bool
is_copy r = bit_and r.sysflag 12 == 8

-- the value of a property, if it is this text
abbrev pub is_text : List ℕ → Option (List ℕ) → Bool
is_text text None = false
is_text text (Some value) = bytes_eq value text

-- the origin's number that a renewal has as property
abbrev pub origin_text : Entry → Option (List ℕ)
origin_text r = value_of (codes "TRAN_PREPARED_QUEUE_OFFSET") r.props

-- what stands before the first dash: in DELAY_FROM the level
abbrev pub before_dash : List ℕ → Option (List ℕ)
before_dash text = option_map (λ p. p.0) (until 45 text)

abbrev pub level_part : Option (List ℕ) → Option (List ℕ)
level_part None = None
level_part (Some text) = before_dash text

abbrev pub delay_level : Entry → Option (List ℕ)
delay_level r = level_part (value_of (codes "DELAY_FROM") r.props)

-- the delivery of a message of this level
abbrev pub is_delivery : ℕ → Entry → Bool
is_delivery level r = is_text (digits_of level) (delay_level r)
