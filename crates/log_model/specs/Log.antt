-- A log: a list of records, each at the place that the records before it leave for it.
use Rattle.std.specs.Prelude.{◌≡◌, ℕ, ◌+◌, ◌*◌, ◌/◌, ◌%◌, ◌^◌, ◌≤◌, nat_le, List, [], ◌∷◌, take, slice_get, Some, Bool, if◌then◌else◌}
use Rattle.record_codec.specs.Entry.{Entry}
use Rattle.record_codec.specs.Layout.{size, IsRecord}
use Rattle.log_model.specs.Bases.{Base, Geometry, first_segment}
use Rattle.log_model.specs.Queues.{queue_end}
use Rattle.log_model.specs.Admissible.{half_topic, IsAdmissible, NamesEarlier}

-- how many bytes a segment may have: from 4 KiB to 1 GiB
pub record IsSegmentSize (S : ℕ) : Type 0 where
  pub low : 4096 ≤ S
  pub high : S ≤ 2 ^ 30

-- A log may begin at such a base: where a segment begins, and with counts that records before it can have.
pub record IsGeometry (S : Geometry) : Type 0 where
  pub low : 4096 ≤ S.size
  pub high : S.size ≤ 2 ^ 30
  pub begins : S.base.place ≡ first_segment S * S.size
  pub within : S.base.place ≤ 2 ^ 62
  pub some : 91 * S.base.records ≤ S.base.place
  pub counted : (topic : List ℕ) (queue : ℕ) → S.base.queues topic queue ≤ S.base.records

-- a record of n bytes fits at this offset of its segment where eight bytes are left behind it for a blank
abbrev pub fits : ℕ → ℕ → ℕ → Bool
fits S offset n = nat_le (offset + n + 8) S

-- where the last record ends, or this place where there is none
abbrev pub end_from : ℕ → List Entry → ℕ
end_from place [] = place
end_from place (r ∷ log) = end_from (r.offset + size r) log

-- where the last record of a log ends that begins at this base
abbrev pub end_of : Base → List Entry → ℕ
end_of base log = end_from base.place log

-- the place behind this end for a record of n bytes: there where it fits, else at the start of the next segment
abbrev pub place_after : ℕ → ℕ → ℕ → ℕ
place_after S end n = if fits S (end % S) n then end else (end / S + 1) * S

-- the place of the next record of a log, which has n bytes
abbrev pub next_place : Geometry → List Entry → ℕ → ℕ
next_place S log n = place_after S.size (end_of S.base log) n

-- ---- a log

-- The record may stand behind these: at the next place, with the next queue offset of its queue, and with no earlier store time.
pub record Follows (S : Geometry) (log : List Entry) (r : Entry) : Type 0 where
  pub layout : IsRecord r
  pub place : r.offset ≡ next_place S log (size r)
  pub room : size r + 8 ≤ S.size
  pub low : r.offset + size r ≤ 2 ^ 62
  pub queue_offset : r.queue_offset ≡ queue_end S.base log r.topic r.queue
  pub store : (k : ℕ) (earlier : Entry) → slice_get log k ≡ Some earlier → earlier.store ≤ r.store
  pub admissible : IsAdmissible S.size r
  pub names : NamesEarlier (queue_end S.base log half_topic 0) r

-- each record may stand behind those before it
pub record IsWellFormed (S : Geometry) (log : List Entry) : Type 0 where
  pub segment : IsGeometry S
  pub each : (k : ℕ) (r : Entry) → slice_get log k ≡ Some r → Follows S (take k log) r
