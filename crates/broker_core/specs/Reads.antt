-- Requests that read: why one is refused, the fields of their replies, and where the records of a pull stand.
use Rattle.std.specs.Prelude.{◌≡◌, ℕ, ◌+◌, List, [], ◌∷◌, length, codes, Option, Some, None}
use Rattle.mq_bytes.specs.Decimal.{digits_of}
use Rattle.mq_outside.specs.Covers.{HoldsRange, piece_start}
use Rattle.mq_outside.specs.Readings.{HasAt}
use Rattle.mq_outside.specs.declared.frozen_ranges.FrozenRanges.{FrozenRanges}
use Rattle.record_codec.specs.declared.unit.Unit.{Unit as QueueUnit}
use Rattle.reply_fields.specs.declared.slice.Slice.{Slice}
use Rattle.reply_fields.specs.declared.slice.Slice.TheVariants.{Held, Kept}
use Rattle.broker_model.specs.Events as model
use Rattle.broker_model.specs.Refusals.{plain_reply}
use Rattle.broker_core.specs.declared.replies.Refused.{Refused}
use Rattle.broker_core.specs.declared.replies.Refused.TheVariants.{Closed, NoTopic, Queue, Expression}

-- ---- refusals

-- the reply of a refusal
abbrev pub refusal_reply : Refused → model.Reply
refusal_reply Closed = plain_reply 16 (codes "system topic")
refusal_reply NoTopic = plain_reply 17 (codes "no topic")
refusal_reply Queue = plain_reply 1 (codes "queue")
refusal_reply Expression = plain_reply 1 (codes "expression")

-- the same, if there is a refusal
abbrev pub refusal_replies : Option Refused → Option model.Reply
refusal_replies None = None
refusal_replies (Some refused) = Some (refusal_reply refused)

-- ---- fields

-- the fields of a reply that tells an offset
abbrev pub offset_ext : ℕ → List (List ℕ × List ℕ)
offset_ext n = (codes "offset", digits_of n) ∷ []

-- the fields of the reply to a pull
abbrev pub pull_ext : ℕ → ℕ → ℕ → List (List ℕ × List ℕ)
pull_ext high low next =
    (codes "maxOffset", digits_of high) ∷ (codes "minOffset", digits_of low) ∷ (codes "nextBeginOffset", digits_of next)
    ∷ (codes "suggestWhichBrokerId", codes "0") ∷ []

-- ---- pulls

-- the slice is where the unit tells, and has the bytes there that the pieces hold
abbrev pub IsSliceAt : FrozenRanges → Slice → QueueUnit → Type 0
IsSliceAt stored (Held bytes) unit = ⊥
IsSliceAt stored (Kept range) unit =
    (piece_start range.piece + range.at ≡ unit.offset) × (range.len ≡ unit.size)
    × ((bytes : List ℕ) → length bytes ≡ unit.size → HoldsRange stored.pieces.items unit.offset bytes
    → HasAt range.piece.held range.at bytes)

-- each slice is that of its unit, in order
abbrev pub AreSlicesAt : FrozenRanges → List Slice → List QueueUnit → Type 0
AreSlicesAt stored [] [] = Unit {0}
AreSlicesAt stored [] (unit ∷ units) = ⊥
AreSlicesAt stored (slice ∷ slices) [] = ⊥
AreSlicesAt stored (slice ∷ slices) (unit ∷ units) = IsSliceAt stored slice unit × AreSlicesAt stored slices units
