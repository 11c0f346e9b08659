-- What is kept of a half message, and what changes where one is added or settled, told of the tables alone.
use Rattle.std.specs.Prelude.{◌≡◌, ℕ, ◌+◌, ◌-◌, ◌<◌, ◌==◌, ◌&&◌, nat_lt, List, [], ◌∷◌, ◌++◌, length, slice_get, Bool, false}
use Rattle.std.specs.Prelude.{Option, Some, None, vec_len, vec_capacity, if◌then◌else◌}
use Rattle.record_codec.specs.Entry.{Entry}
use Rattle.half_view.specs.declared.row.HalfRow.{HalfRow}
use Rattle.half_view.specs.Halves.{HalfTable, is_open, origin_at}
use Rattle.half_records.specs.Kept.{KeptRow, AreKeptWith}
use Rattle.half_records.specs.Names.{AreApart, KeepsNumbers}
use Rattle.half_records.specs.declared.halves.Halves.{Halves}

-- what is kept of the half message with this queue offset, where it stands
abbrev pub kept_at : Halves → ℕ → Option KeptRow
kept_at h half = if nat_lt half h.first then None else slice_get h.kept.items (half - h.first)

-- its index among those that stand
abbrev pub kept_index : Halves → ℕ → Option ℕ
kept_index h half =
    if nat_lt half h.first then None else (if nat_lt (half - h.first) (length h.kept.items) then Some (half - h.first) else None)

-- the members of an origin's family that are kept
abbrev pub family_of : Option KeptRow → List Entry
family_of None = []
family_of (Some x) = x.family

-- the row is that of an open origin
abbrev pub is_open_row : Option HalfRow → Bool
is_open_row None = false
is_open_row (Some row) = is_open row.state

-- the half message with this queue offset is an open origin
abbrev pub is_open_at : HalfTable → ℕ → Bool
is_open_at t half = is_open_row (origin_at t half)

-- There is room for a half message more, which names this origin or none, of which this is kept.
pub record HasRoomFor (h : Halves) (named : Option ℕ) (kept : KeptRow) : Type 0 where
  pub view : 0 < h.view.spare
  pub row : vec_len h.kept < vec_capacity h.kept
  pub own : named ≡ None → 0 < kept.spare
  pub family : (origin : ℕ) (x : KeptRow) → named ≡ Some origin → kept_at h origin ≡ Some x → 0 < x.spare

-- ---- families

-- where the renewal's origin is this open one, it is one of its family
abbrev pub renewed_family : Halves → ℕ → Entry → ℕ → List Entry → List Entry
renewed_family h origin r k family = if (origin == h.first + k) && is_open_at h.view origin then family ++ r ∷ [] else family

-- of this half message no family is kept where it isn't an open origin
abbrev pub settled_family : ℕ → HalfTable → ℕ → ℕ → List Entry → List Entry
settled_family first t half k family = if half == first + k then (if is_open_at t half then family else []) else family

-- ---- room

-- Nothing but room has changed, and there may be more names.
pub record StandsAs (old new : Halves) : Type 0 where
  pub low : new.view.low ≡ old.view.low
  pub halves : new.view.halves ≡ old.view.halves
  pub first : new.first ≡ old.first
  pub kept : AreKeptWith (λ k family. family) old.kept.items new.kept.items
  pub numbers : KeepsNumbers old.groups new.groups
  pub apart : AreApart old.groups → AreApart new.groups

-- there is room for a half message more, and in the family of this origin
pub record HasRoomIn (h : Halves) (named : Option ℕ) : Type 0 where
  pub view : 0 < h.view.spare
  pub row : vec_len h.kept < vec_capacity h.kept
  pub family : (origin : ℕ) (x : KeptRow) → named ≡ Some origin → kept_at h origin ≡ Some x → 0 < x.spare
