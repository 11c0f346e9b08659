-- When the reply that is made is the one that the model answers.
use Rattle.std.specs.Prelude.{◌≡◌, ◌+◌, List, [], ◌∷◌, pos}
use Rattle.request_fields.specs.declared.clients.QueueName.{QueueName}
use Rattle.record_codec.specs.Entry.{Entry}
use Rattle.record_codec.specs.Layout.{size, layout}
use Rattle.mq_outside.specs.Covers.{piece_start}
use Rattle.mq_outside.specs.Readings.{HasAt}
use Rattle.reply_fields.specs.Parts.{ReplyParts}
use Rattle.reply_fields.specs.declared.slice.Slice.{Slice}
use Rattle.reply_fields.specs.declared.slice.Slice.TheVariants.{Held, Kept}
use Rattle.reply_fields.specs.declared.slice.StoredRange.{StoredRange}
use Rattle.broker_model.specs.Events as model
use Rattle.reply_fields.specs.Granted.{granted_text}

-- the range is where the record stands, all of it, and what its piece holds there is the record
pub record IsRangeOf (range : StoredRange) (r : Entry) : Type 0 where
  pub place : piece_start range.piece + range.at ≡ r.offset
  pub len : range.len ≡ size r
  pub held : HasAt range.piece.held range.at (layout r)

-- the slice is a stored range that is the record
abbrev pub IsSliceOf : Slice → Entry → Type 0
IsSliceOf (Held bytes) r = ⊥
IsSliceOf (Kept range) r = IsRangeOf range r

-- each slice is that of its record, in order
abbrev pub AreSlicesOf : List Slice → List Entry → Type 0
AreSlicesOf [] [] = Unit {0}
AreSlicesOf [] (r ∷ records) = ⊥
AreSlicesOf (slice ∷ slices) [] = ⊥
AreSlicesOf (slice ∷ slices) (r ∷ records) = IsSliceOf slice r × AreSlicesOf slices records

-- the reply has the code, the remark and the fields of the model's, and a slice for each record of its body
pub record IsReplyOf (reply : ReplyParts) (told : model.Reply) : Type 0 where
  pub code : reply.code ≡ pos told.code
  pub remark : reply.remark ≡ told.remark
  pub ext : reply.ext ≡ told.ext
  pub body : AreSlicesOf reply.body told.body

-- the reply tells which queues a client got: code 0, and a held body that is their text
pub record IsLockReply (reply : ReplyParts) (queues : List QueueName) : Type 0 where
  pub code : reply.code ≡ pos 0
  pub remark : reply.remark ≡ []
  pub ext : reply.ext ≡ []
  pub body : reply.body ≡ Held (granted_text queues) ∷ []

-- the reply is what the model answers: one of its replies, or the queues that a client got
abbrev pub IsToldAs : ReplyParts → model.Answer → Type 0
IsToldAs reply (model.Replies told) = IsReplyOf reply told
IsToldAs reply (model.Locked queues) = IsLockReply reply queues
IsToldAs reply (model.After told number turn) = ⊥
IsToldAs reply (model.Full pending) = ⊥
IsToldAs reply model.LogEnd = ⊥
IsToldAs reply (model.Batch batch) = ⊥
IsToldAs reply model.Done = ⊥
IsToldAs reply (model.Looked what) = ⊥
IsToldAs reply (model.Moved number) = ⊥
IsToldAs reply (model.Delivered what) = ⊥
IsToldAs reply (model.Checked what) = ⊥
