-- The table as that of a log.
use Rattle.std.specs.Prelude.{◌≡◌, ℕ, ◌+◌, ◌-◌, ◌^◌, ◌≤◌, ◌&&◌, not, min, nat_lt, nat_le, List, [], ◌∷◌, map, filter}
use Rattle.std.specs.Prelude.{find, length, take, slice_get, Bool, Option, Some, None, option_map, if◌then◌else◌}
use Rattle.std.specs.Str.Parse.{digits_value}
use Rattle.record_codec.specs.Entry.{Entry}
use Rattle.log_model.specs.declared.origin.OriginState.TheVariants.{Committed, RolledBack, Discarded}
use Rattle.log_model.specs.Admissible.{half_topic, number_of}
use Rattle.log_model.specs.Bases.{Base}
use Rattle.log_model.specs.Kinds.{is_half, is_op, is_copy, is_discard, origin_text}
use Rattle.log_model.specs.Log.{end_from}
use Rattle.log_model.specs.Numbered.{Log, queue_min}
use Rattle.log_model.specs.Origins.{told_state}
use Rattle.log_model.specs.Queues.{queue_of}
use Rattle.log_model.specs.Transactions.{origins, renewals, last_of, settles, is_settled, transaction_state, origin_of}
use Rattle.half_view.specs.declared.check.Check.{Check}
use Rattle.half_view.specs.declared.row.HalfRow.{HalfRow}
use Rattle.half_view.specs.Halves.{HalfTable, names_or, family_at, with_settled, if_settled}

-- the queue offset that a half message names, if any
abbrev pub named_by : Entry → Option ℕ
named_by r = option_map (digits_value 10) (origin_text r)

-- an origin may be checked from 6,000 ms after its store time on, and from 60,000 ms after its last renewal on
abbrev pub due_after : Entry → Option Entry → ℕ
due_after r None = r.store + 6000
due_after r (Some renewal) = renewal.store + 60000

-- the queue offset of the last renewal, or else the own one
abbrev pub last_or : ℕ → Option Entry → ℕ
last_or own None = own
last_or own (Some renewal) = renewal.queue_offset

-- the number after that of the last of these records that passes, the first of which has this number; 0 where none does
abbrev pub after_last : (Entry → Bool) → ℕ → List Entry → ℕ
after_last test n [] = 0
after_last test n (r ∷ log) = if nat_lt 0 (after_last test (n + 1) log) then after_last test (n + 1) log else (if test r then n + 1 else 0)

-- what the log says of a half message
abbrev pub half_of : Log → Entry → HalfRow
half_of log r = record {
  place = r.offset;
  names = names_or r.queue_offset (named_by r);
  due = due_after r (last_of (renewals log.records r.queue_offset));
  last = last_or r.queue_offset (last_of (renewals log.records r.queue_offset));
  settled = after_last (settles log.records r.queue_offset) log.base.records log.records;
  checks = min (length (renewals log.records r.queue_offset)) (2 ^ 32 - 1);
  state = told_state (transaction_state log.records r.queue_offset);
}

-- the half messages of a log
abbrev pub halves_in : Log → List Entry
halves_in log = filter is_half log.records

-- the number of the last record that settles an origin
abbrev pub settling_in : Log → Option Entry → Option ℕ
settling_in log None = None
settling_in log (Some r) = if_settled (after_last (settles log.records r.queue_offset) log.base.records log.records)

-- the origin of a half message, if one is there
abbrev pub origin_in : List Entry → Option Entry → Option Entry
origin_in log None = None
origin_in log (Some half) = origin_of log half

-- The table is that of the log: it has each half message in order, with what the whole log says of it.
pub record AreHalvesOf (log : Log) (t : HalfTable) : Type 0 where
  pub low : t.low ≡ queue_min log half_topic 0
  pub halves : t.halves ≡ map (half_of log) (halves_in log)

-- a log without records, from this base on
abbrev pub empty_log : Base → Log
empty_log base = record { base = base; records = [] }

-- What a removal of the log's first n records leaves to half messages: the later base counts these records, the half messages
-- among them too, and its place lies between them and the next one.
pub record CutsHalves (log : Log) (n : ℕ) (later : Base) : Type 0 where
  pub long : n ≤ length log.records
  pub records : later.records ≡ log.base.records + length (take n log.records)
  pub halves : later.queues half_topic 0 ≡ log.base.queues half_topic 0 + length (queue_of (take n log.records) half_topic 0)
  pub behind : end_from log.base.place (take n log.records) ≤ later.place
  pub before : (r : Entry) → slice_get log.records n ≡ Some r → later.place ≤ r.offset

-- ---- what is due

-- the origin may be asked for
abbrev pub is_asked_at : ℕ → Entry → Option Entry → Bool
is_asked_at now origin last = nat_le (due_after origin last) now

-- an open origin that may be asked for
abbrev pub is_due_origin : List Entry → ℕ → Entry → Bool
is_due_origin log now origin =
    not (is_settled log origin.queue_offset) && is_asked_at now origin (last_of (renewals log origin.queue_offset))

-- the first origin that is due
abbrev pub due_origin : List Entry → ℕ → Option Entry
due_origin log now = find (is_due_origin log now) (origins log)

-- how it is checked: 15 times it is renewed, and then its last renewal is given up
abbrev pub check_of : List Entry → Entry → Check
check_of log origin = record {
  origin = origin.queue_offset;
  checks = min (length (renewals log origin.queue_offset)) (2 ^ 32 - 1);
  given_up = if nat_lt (length (renewals log origin.queue_offset)) 15 then None
      else option_map (λ renewal. renewal.queue_offset) (last_of (renewals log origin.queue_offset));
}

-- ---- what one record is to the table

-- the half message that an op record names, that of a copy, and that of a discarded copy
abbrev pub rolled_back_by : Entry → Option ℕ
rolled_back_by r = if is_op r then number_of r.body else None

abbrev pub committed_by : HalfTable → Entry → Option ℕ
committed_by t r = if is_copy r then family_at t r.prepared else None

abbrev pub discarded_by : HalfTable → Entry → Option ℕ
discarded_by t r = if is_discard r then family_at t r.prepared else None

-- the table with what this record settles, which has this number
abbrev pub with_settlement : HalfTable → Entry → ℕ → HalfTable
with_settlement t r number =
    with_settled (with_settled (with_settled t (rolled_back_by r) RolledBack number) (committed_by t r) Committed number)
    (discarded_by t r) Discarded number
