-- What contracts see of the delay levels, and which is due.
use Rattle.std.specs.Prelude.{ℕ, Bool, false, ◌||◌, ◌+◌, ◌-◌, nat_lt, nat_le, List, [], ◌∷◌, ◌++◌}
use Rattle.std.specs.Prelude.{take, drop, slice_get, Option, Some, None, if◌then◌else◌}

-- A delay level: how many of its messages were removed, the delivery times of those that stand, how many of these were
-- dispatched, how many messages were ever delivered, and for how many more there is room.
pub record Level : Type 0 where
  pub low : ℕ
  pub times : List ℕ
  pub seen : ℕ
  pub copied : ℕ
  pub spare : ℕ

-- a level that has no messages
abbrev pub empty_level : ℕ → Level
empty_level spare = record { low = 0; times = []; seen = 0; copied = 0; spare = spare }

-- a level whose next message has this offset, and of which so many were delivered
abbrev pub started : Level → ℕ → ℕ → ℕ → Level
started l items copies spare = record { low = items; times = l.times; seen = 0; copied = copies; spare = spare }

-- the level with this much room
abbrev pub with_room : Level → ℕ → Level
with_room l spare = record l { spare = spare }

-- with one message more, and then this much room
abbrev pub with_time : Level → ℕ → ℕ → Level
with_time l time spare = record l { times = l.times ++ time ∷ []; spare = spare }

-- with one message more that was dispatched
abbrev pub with_next_seen : Level → Level
with_next_seen l = record l { seen = l.seen + 1 }

-- with one message more that was delivered
abbrev pub with_next_copied : Level → Level
with_next_copied l = record l { copied = l.copied + 1 }

-- without the messages below this offset
abbrev pub cut_at : Level → ℕ → Level
cut_at l min = record l { low = min; times = drop (min - l.low) l.times; seen = l.seen - (min - l.low) }

-- the delivery time of the level's next message, where it was dispatched
abbrev pub next_time : Level → Option ℕ
next_time l = if nat_lt l.copied l.low then None else slice_get (take l.seen l.times) (l.copied - l.low)

-- the time is there and has come
abbrev pub has_come : ℕ → Option ℕ → Bool
has_come now None = false
has_come now (Some time) = nat_le time now

-- the lowest of these levels that is due, with the offset of its next message; the first of them has this number
abbrev pub due_from : ℕ → ℕ → List Level → Option (ℕ × ℕ)
due_from now level [] = None
due_from now level (l ∷ more) = if has_come now (next_time l) then Some (level, l.copied) else due_from now (level + 1) more

-- the lowest level that is due
abbrev pub due_of : ℕ → List Level → Option (ℕ × ℕ)
due_of now levels = due_from now 1 levels

-- the time of one of these levels has come
abbrev pub is_any_due : ℕ → List Level → Bool
is_any_due now [] = false
is_any_due now (l ∷ more) = has_come now (next_time l) || is_any_due now more
