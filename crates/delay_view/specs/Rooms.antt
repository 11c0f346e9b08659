-- How a delay level is kept.
use Rattle.std.specs.Prelude.{◌≡◌, ℕ, ◌+◌, ◌-◌, ◌<◌, ◌≤◌, ◌^◌, ◌||◌, min, nat_le, nat_lt, List, length, slice_get, Bool, true, Some}
use Rattle.chunks.specs.Lists.{Roomy}
use Rattle.delay_view.specs.Levels.{Level}

-- the level of these parts: there is room where the chunks have room and the offsets stay small
abbrev pub level_of : ℕ → Roomy ℕ → ℕ → ℕ → Level
level_of low times seen copied = record {
  low = low;
  times = times.items;
  seen = seen;
  copied = copied;
  spare = min times.spare (2 ^ 63 - 1 - (low + length times.items));
}

-- those that are seen stand, and the offsets are small
pub record IsLevel (low : ℕ) (times : List ℕ) (seen copied : ℕ) : Type 0 where
  pub within : seen ≤ length times
  pub small : low + length times < 2 ^ 63
  pub few : copied ≤ 2 ^ 62

-- the next message was removed or isn't dispatched
abbrev pub is_idle : Level → Bool
is_idle l = nat_lt l.copied l.low || nat_le (l.low + l.seen) l.copied

-- There are eighteen, and the first so many have no message to deliver.
pub record AreAll (levels : List Level) (idle : ℕ) : Type 0 where
  pub all : length levels ≡ 18
  pub few : idle ≤ 18
  pub none : (k : ℕ) (l : Level) → k < idle → slice_get levels k ≡ Some l → is_idle l ≡ true
