-- The definitions of log_model, said of records as programs have them.
use Rattle.std.specs.Prelude.{ℕ, ◌==◌, ◌&&◌, ◌||◌, List, Bool, map, is_none}
use Rattle.std.specs.List.{list_any}
use Rattle.record_codec.specs.declared.draft.Record.{Record}
use Rattle.record_codec.specs.Entry.{Entry}
use Rattle.record_codec.specs.Layout.{size}
use Rattle.log_model.specs.declared.base.Base.{Base as Told}
use Rattle.log_model.specs.declared.origin.OriginState.{OriginState}
use Rattle.log_model.specs.Kinds.{is_half, is_text, origin_text}
use Rattle.log_model.specs.Numbered.{Log}
use Rattle.log_model.specs.Queues.{entries_of}
use Rattle.log_model.specs.Told.{base_of}
use Rattle.log_model.specs.Transactions.{origins, transaction_state}
use Rattle.log_model.specs.Origins.{told_state}

-- the log of these records from this base on
abbrev pub log_of : Told → List Record → Log
log_of base records = record { base = base_of base; records = entries_of records }

-- the record is the origin with this queue offset, or a renewal that names it by these digits
abbrev pub is_of_origin : ℕ → List ℕ → Entry → Bool
is_of_origin h digits r = (is_half r && is_none (origin_text r) && (r.queue_offset == h)) || (is_half r && is_text digits (origin_text r))

-- it is one of these places
abbrev pub is_among : List ℕ → ℕ → Bool
is_among places place = list_any (λ p. p == place) places

-- each origin's queue offset and what became of it, in the order of the log
abbrev pub origin_states : List Entry → List (ℕ × OriginState)
origin_states log = map (λ r. (r.queue_offset, told_state (transaction_state log r.queue_offset))) (origins log)

-- where a record stands, and how many bytes it has
abbrev pub place_and_size : Entry → ℕ × ℕ
place_and_size r = (r.offset, size r)
