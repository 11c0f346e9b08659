-- Where a log begins: at place 0, or behind segments that were removed.
use Rattle.std.specs.Prelude.{ℕ, ◌/◌, List, []}

-- What was removed from the front of a log: all up to this place, so many records, of each queue of a topic so many, and so
-- many deliveries of each of the levels 1 to 18; and which queues it names.
pub record Base : Type 0 where
  pub place : ℕ
  pub records : ℕ
  pub queues : List ℕ → ℕ → ℕ
  pub levels : ℕ → ℕ
  pub named : List (List ℕ × ℕ)

-- nothing was removed
abbrev pub no_base : Base
no_base = record { place = 0; records = 0; queues = λ topic queue. 0; levels = λ level. 0; named = [] }

-- the geometry of a log: how many bytes a segment has, and the base at which the log begins
pub record Geometry : Type 0 where
  pub size : ℕ
  pub base : Base

-- segments of so many bytes, from this base on
abbrev pub geometry : ℕ → Base → Geometry
geometry size base = record { size = size; base = base }

-- segments of so many bytes, from the first one on
abbrev pub whole : ℕ → Geometry
whole size = geometry size no_base

-- the number of the segment where the log begins
abbrev pub first_segment : Geometry → ℕ
first_segment S = S.base.place / S.size
