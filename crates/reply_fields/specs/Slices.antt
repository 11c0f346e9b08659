-- The slices of a body: how many bytes they have, and which bytes they give.
use Rattle.std.specs.Prelude.{◌≡◌, ℕ, ◌++◌, List, [], ◌∷◌, length, take, drop, sum_by, count_by, Bool, true, false}
use Rattle.mq_outside.specs.Readings.{Giving}
use Rattle.reply_fields.specs.declared.slice.Slice.{Slice}
use Rattle.reply_fields.specs.declared.slice.Slice.TheVariants.{Held, Kept}

-- how many bytes a slice has
abbrev pub slice_len : Slice → ℕ
slice_len (Held bytes) = length bytes
slice_len (Kept range) = range.len

-- how many bytes the slices have together
abbrev pub body_len : List Slice → ℕ
body_len slices = sum_by slice_len slices

-- the slice is a range of a stored piece
abbrev pub is_kept : Slice → Bool
is_kept (Held bytes) = false
is_kept (Kept range) = true

-- how many of the slices are
abbrev pub kept_count : List Slice → ℕ
kept_count slices = count_by is_kept slices

-- The bytes are a slice's: those that it holds, or as many as the range has, which a reader of this kind gives there.
abbrev pub IsSlice : Giving → Slice → List ℕ → Type 0
IsSlice gives (Held held) bytes = bytes ≡ held
IsSlice gives (Kept range) bytes = (length bytes ≡ range.len) × gives range.piece range.at bytes

-- the bytes are those of the slices, one after another
abbrev pub IsBody : Giving → List Slice → List ℕ → Type 0
IsBody gives [] bytes = bytes ≡ []
IsBody gives (slice ∷ slices) bytes = IsSlice gives slice (take (slice_len slice) bytes)
    × IsBody gives slices (drop (slice_len slice) bytes)

-- behind the old bytes stand bytes that the slices give
pub record AppendsBody (gives : Giving) (slices : List Slice) (old new : List ℕ) : Type 0 where
  pub body : List ℕ
  pub given : IsBody gives slices body
  pub behind : new ≡ old ++ body
