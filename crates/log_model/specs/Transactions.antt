-- Transactions: half messages, and what the log says became of them.
use Rattle.std.specs.Prelude.{ℕ, ◌==◌, ◌&&◌, ◌||◌, not, List, filter, count_by, find, []}
use Rattle.std.specs.Prelude.{◌∷◌, Bool, is_none, Option, Some, None, if◌then◌else◌}
use Rattle.std.specs.List.{list_any}
use Rattle.std.specs.Str.{bytes_eq}
use Rattle.std.specs.Str.Parse.{digits_value}
use Rattle.mq_bytes.specs.Decimal.{digits_of}
use Rattle.record_codec.specs.Entry.{Entry}
use Rattle.log_model.specs.Kinds.{is_half, is_op, is_copy, is_discard, is_text, origin_text}

-- a half message that is no renewal, and one that is: it names its origin, a half message, by the queue offset of that
abbrev pub is_origin : ℕ → Entry → Bool
is_origin h r = is_half r && is_none (origin_text r) && (r.queue_offset == h)

abbrev pub is_renewal : ℕ → Entry → Bool
is_renewal h r = is_half r && is_text (digits_of h) (origin_text r)

-- the origin with its renewals, in the order of the log
abbrev pub family : List Entry → ℕ → List Entry
family log h = filter (λ r. is_origin h r || is_renewal h r) log

abbrev pub renewals : List Entry → ℕ → List Entry
renewals log h = filter (is_renewal h) log

-- one of the family stands at this place
abbrev pub is_of_family : List Entry → ℕ → ℕ → Bool
is_of_family log h place = list_any (λ r. r.offset == place) (family log h)

-- a copy of one of the family, one of them that was discarded, and an op record that names the origin
abbrev pub copies_it : List Entry → ℕ → Entry → Bool
copies_it log h r = is_copy r && is_of_family log h r.prepared

abbrev pub discards_it : List Entry → ℕ → Entry → Bool
discards_it log h r = is_discard r && is_of_family log h r.prepared

abbrev pub names_it : ℕ → Entry → Bool
names_it h r = is_op r && bytes_eq r.body (digits_of h)

-- each of these settles the origin
abbrev pub settles : List Entry → ℕ → Entry → Bool
settles log h r = names_it h r || copies_it log h r || discards_it log h r

abbrev pub is_settled : List Entry → ℕ → Bool
is_settled log h = list_any (settles log h) log

-- how often the message was made of its half
abbrev pub copies : List Entry → ℕ → ℕ
copies log h = count_by (copies_it log h) log

-- what became of an origin
pub data TransactionState : Type 0 where
  Open : TransactionState
  Committed : TransactionState
  RolledBack : TransactionState
  Discarded : TransactionState

abbrev pub transaction_state : List Entry → ℕ → TransactionState
transaction_state log h =
    if not (is_settled log h) then Open
    else (if list_any (discards_it log h) log then Discarded else (if list_any (copies_it log h) log then Committed else RolledBack))

-- the origins in the order of the log
abbrev pub origins : List Entry → List Entry
origins log = filter (λ r. is_half r && is_none (origin_text r)) log

-- the last of some records
abbrev pub last_of : List Entry → Option Entry
last_of [] = None
last_of (r ∷ []) = Some r
last_of (r ∷ s ∷ more) = last_of (s ∷ more)

-- the origin of a half message: itself, or the origin that the renewal names
abbrev pub named_origin : List Entry → Option (List ℕ) → Entry → Option Entry
named_origin log None r = Some r
named_origin log (Some text) r = find (is_origin (digits_value 10 text)) log

abbrev pub origin_of : List Entry → Entry → Option Entry
origin_of log r = named_origin log (origin_text r) r

-- the half message with this queue offset at this place
abbrev pub half_at : List Entry → ℕ → ℕ → Option Entry
half_at log queue_offset place = find (λ r. is_half r && (r.queue_offset == queue_offset) && (r.offset == place)) log
