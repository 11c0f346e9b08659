-- The fields that tell where the record of a send stands.
use Rattle.std.specs.Prelude.{ℕ, ◌≤◌, List, [], ◌∷◌, codes}
use Rattle.mq_bytes.specs.Decimal.{digits_of}
use Rattle.mq_bytes.specs.Ids.{message_id_of}
use Rattle.remoting_frame.specs.Head.{pairs_size}
use Rattle.reply_fields.specs.declared.ext.Sent.{Sent}
use Rattle.reply_fields.specs.declared.ext.Kept.{Kept}
use Rattle.reply_fields.specs.declared.ext.Kept.TheVariants.{Texts, Numbers}

-- the fields of a record that this broker has at this place, as this one of its queue
abbrev pub sent_fields : List ℕ → ℕ → ℕ → ℕ → List (List ℕ × List ℕ)
sent_fields host place queue queue_offset =
    (codes "msgId", message_id_of host place) ∷ (codes "queueId", digits_of queue) ∷ (codes "queueOffset", digits_of queue_offset) ∷ []

abbrev pub fields_of_sent : Sent → List (List ℕ × List ℕ)
fields_of_sent sent = sent_fields sent.host sent.place sent.queue sent.queue_offset

-- the fields that are kept as texts, or as the numbers that they are made of
abbrev pub fields_kept : Kept → List (List ℕ × List ℕ)
fields_kept (Texts fields) = fields
fields_kept (Numbers sent) = fields_of_sent sent

-- those that are kept as numbers are short
abbrev pub IsShortKept : Kept → Type 0
IsShortKept (Texts fields) = Unit {0}
IsShortKept (Numbers sent) = pairs_size (fields_of_sent sent) ≤ 200
