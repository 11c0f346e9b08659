-- Which records may be removed from the front of the log: those of whole segments that nobody needs any more.
use Rattle.std.specs.Prelude.{◌≡◌, ℕ, ◌+◌, ◌*◌, ◌/◌, ◌<◌, ◌≤◌, ◌==◌, ◌&&◌, ◌||◌, not, List, take, take_while}
use Rattle.std.specs.Prelude.{length, count_by, slice_get, codes, is_none, Bool, true, Option, Some, None}
use Rattle.std.specs.List.{list_any}
use Rattle.std.specs.Str.{bytes_eq}
use Rattle.record_codec.specs.Entry.{Entry}
use Rattle.record_codec.specs.Props.{value_of}
use Rattle.log_model.specs.Bases.{Base}
use Rattle.log_model.specs.Log.{end_from}
use Rattle.log_model.specs.Queues.{queue_of}
use Rattle.log_model.specs.Kinds.{is_half, is_delayed, is_delivery, is_text, origin_text}
use Rattle.log_model.specs.Numbered.{Log, below, place_end}
use Rattle.log_model.specs.Transactions.{is_settled, is_renewal}
use Rattle.log_model.specs.Drafts.{delivery_text}
use Rattle.broker_model.specs.State.{State}

-- ---- bases

-- the later base counts these records too, besides those that the base counts: all of them, those of each queue, and the
-- deliveries of each level
pub record IsBaseAfter (base : Base) (gone : List Entry) (later : Base) : Type 0 where
  pub records : later.records ≡ base.records + length gone
  pub queues : (topic : List ℕ) (queue : ℕ)
      → later.queues topic queue ≡ base.queues topic queue + length (queue_of gone topic queue)
  pub levels : (level : ℕ) → 1 ≤ level → level ≤ 18
      → later.levels level ≡ base.levels level + count_by (is_delivery level) gone

-- the base names the queue
abbrev pub is_named : Base → List ℕ → ℕ → Bool
is_named base topic queue = list_any (λ named. bytes_eq named.0 topic && (named.1 == queue)) base.named

-- some of the records is of the queue
abbrev pub has_queue : List Entry → List ℕ → ℕ → Bool
has_queue records topic queue = list_any (λ r. bytes_eq r.topic topic && (r.queue == queue)) records

-- The log may be cut at the base, behind its first n records: the base counts these and names their queues, a segment begins at
-- its place, and that lies between them and the next record, and not behind the end of the log.
pub record IsCutAt (segment : ℕ) (log : Log) (n : ℕ) (base : Base) : Type 0 where
  pub long : n ≤ length log.records
  pub counts : IsBaseAfter log.base (take n log.records) base
  pub named : (topic : List ℕ) (queue : ℕ) →
      is_named base topic queue ≡ (is_named log.base topic queue || has_queue (take n log.records) topic queue)
  pub begins : base.place ≡ base.place / segment * segment
  pub behind : end_from log.base.place (take n log.records) ≤ base.place
  pub before : (r : Entry) → slice_get log.records n ≡ Some r → base.place ≤ r.offset
  pub within : base.place ≤ place_end log

-- ---- what is done

-- a half message that is no renewal
abbrev pub is_any_origin : Entry → Bool
is_any_origin r = is_half r && is_none (origin_text r)

-- one of the records is the delivery of this delayed message: its level is one more than its queue
abbrev pub is_delivered : List Entry → Entry → Bool
is_delivered records item =
    list_any (λ r. is_text (delivery_text (item.queue + 1) item.queue_offset) (value_of (codes "DELAY_FROM") r.props)) records

-- by these records nothing is left to do with the record: an origin is settled, a delayed message delivered
abbrev pub is_done : List Entry → Entry → Bool
is_done records r =
    (not (is_any_origin r) || is_settled records r.queue_offset) && (not (is_delayed r) || is_delivered records r)

-- the records that are on the disk
abbrev pub flushed_records : State → List Entry
flushed_records s = (below s.log s.flushed).records

-- Up to which number all records are done by what is on the disk. What is copied later lies behind.
abbrev pub settled_number : State → ℕ
settled_number s = s.log.base.records + length (take_while (is_done (flushed_records s)) (flushed_records s))

-- the place where these records end, and their number
abbrev pub settled_mark : State → ℕ × ℕ
settled_mark s = (place_end (below s.log (settled_number s)), settled_number s)

-- ---- which base comes next

-- no half message behind the first n records is a renewal of one of them
abbrev pub AreWholeFamilies : List Entry → ℕ → Type 0
AreWholeFamilies records n = (i k : ℕ) (origin r : Entry) → i < n → slice_get records i ≡ Some origin
    → is_any_origin origin ≡ true → n ≤ k → slice_get records k ≡ Some r → is_renewal origin.queue_offset r ≡ true → ⊥

-- The log may begin at this base from now on: the records before it are dispatched and done, one behind it is on the disk, and
-- each half message goes with its renewals.
pub record IsRemovable (s : State) (base : Base) : Type 0 where
  pub count : ℕ
  pub cut : IsCutAt s.setup.segment s.log count base
  pub dispatched : base.records ≤ s.dispatched
  pub done : base.records ≤ settled_number s
  pub stands : base.records < s.flushed
  pub families : AreWholeFamilies s.log.records count

-- it is removable above the log's own base, its records were stored three days ago or earlier, and number at most this mark's
pub record IsOutdated (s : State) (now mark : ℕ) (base : Base) : Type 0 where
  pub fits : IsRemovable s base
  pub above : s.log.base.place < base.place
  pub marked : base.records ≤ mark
  pub old : (i : ℕ) (r : Entry) → s.log.base.records + i < base.records
      → slice_get s.log.records i ≡ Some r → r.store + 259200000 ≤ now

-- the greatest such base, or none where there is none
abbrev pub IsNextBase : State → ℕ → ℕ → Option Base → Type 0
IsNextBase s now mark None = (base : Base) → IsOutdated s now mark base → ⊥
IsNextBase s now mark (Some base) =
    IsOutdated s now mark base × ((other : Base) → IsOutdated s now mark other → other.place ≤ base.place)
