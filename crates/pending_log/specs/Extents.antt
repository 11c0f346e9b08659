-- How far records go on in one segment.
use Rattle.std.specs.Prelude.{◌≡◌, ℕ, ◌/◌, ◌^◌, ◌<◌, ◌==◌, List, [], ◌∷◌, length, drop, take_while, sum_by}
use Rattle.record_codec.specs.Entry.{Entry}
use Rattle.pending_log.specs.declared.rows.Row.{Row}
use Rattle.pending_log.specs.declared.extent.Extent.{Extent}

-- the longest front of these records that lies in the segment of the first
abbrev pub same_segment : ℕ → List Entry → List Entry
same_segment S [] = []
same_segment S (r ∷ records) = take_while (λ s. s.offset / S == r.offset / S) (r ∷ records)

-- the same of rows
abbrev pub rows_in : ℕ → List Row → List Row
rows_in S [] = []
rows_in S (row ∷ rows) = take_while (λ r. r.place / S == row.place / S) (row ∷ rows)

-- as many records and bytes as the rows from this index on have in one segment
pub record IsExtent (S : ℕ) (rows : List Row) (from : ℕ) (extent : Extent) : Type 0 where
  pub count : extent.count ≡ length (rows_in S (drop from rows))
  pub bytes : extent.bytes ≡ sum_by (λ r. r.size) (rows_in S (drop from rows))

-- the records from there on have few bytes
abbrev pub AreShort : List Row → ℕ → Type 0
AreShort rows from = sum_by (λ r. r.size) (drop from rows) < 2 ^ 63
