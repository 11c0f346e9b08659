-- Deliveries of delayed messages, in order.
use Rattle.std.specs.Prelude.{◌≡◌, ◌⊎◌, ℕ, ◌+◌, ◌-◌, ◌<◌, ◌≤◌, ◌^◌, ◌++◌, [], ◌∷◌, take, slice_get, codes, Some}
use Rattle.std.specs.Str.Parse.{digits_value}
use Rattle.mq_bytes.specs.Delays.{level_delay}
use Rattle.record_codec.specs.Entry.{Entry}
use Rattle.record_codec.specs.Props.{value_of, without}
use Rattle.log_model.specs.Admissible.{level_topic}
use Rattle.log_model.specs.Delays.{progress}
use Rattle.log_model.specs.Drafts.{text_in, without_real, delivery_text}
use Rattle.log_model.specs.Numbered.{Log, item_at, queue_min}

-- the record is the delivery with this number in its level
abbrev pub Delivers : ℕ → ℕ → Entry → Type 0
Delivers level number r = value_of (codes "DELAY_FROM") r.props ≡ Some (delivery_text level number)

-- It is that of this delayed message: its body in its own topic and queue, without what only the broker has a use for, and not
-- before its time.
pub record IsDeliveryOf (level number : ℕ) (item r : Entry) : Type 0 where
  pub topic : r.topic ≡ text_in (codes "REAL_TOPIC") item.props
  pub queue : r.queue ≡ digits_value 10 (text_in (codes "REAL_QID") item.props)
  pub body : r.body ≡ item.body
  pub props : r.props ≡ without (codes "DELAY") (without_real item.props) ++ (codes "DELAY_FROM", delivery_text level number) ∷ []
  pub due : item.store + level_delay level ≤ r.store

-- the log before the record with this index
abbrev pub front : Log → ℕ → Log
front log i = record { base = log.base; records = take i log.records }

-- The deliveries of each level are numbered one after another, behind those that the base counts. The one with number j is that of the
-- level's j-th message, which stands before it or was removed.
abbrev pub InOrder : Log → Type 0
InOrder log = (i level number : ℕ) (r : Entry) → slice_get log.records i ≡ Some r → 1 ≤ level → level ≤ 18 → number < 2 ^ 64
    → Delivers level number r → (number ≡ progress (front log i) level)
    × ((number < queue_min log level_topic (level - 1))
    ⊎ ((item : Entry) × (item_at (front log i) level_topic (level - 1) number ≡ Some item) × IsDeliveryOf level number item r))
