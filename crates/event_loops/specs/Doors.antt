-- How many links a loop lets in, by the count of its door.
use Rattle.std.specs.Prelude.{◌≡◌, ◌≤◌, ◌+◌, ◌-◌, ◌^◌, ℕ, Option, Some, None}
use Rattle.event_loops.specs.declared.entrance.Entrance.{Entrance}
use Rattle.event_loops.specs.declared.event_loop.LoopEnd.{LoopEnd}
use Rattle.event_loops.specs.declared.event_loop.LoopEnd.TheVariants.{Done}

-- so many links came that no further one is let in: as many as were asked for
abbrev pub AllCame : Option ℕ → ℕ → Type 0
AllCame None came = came ≡ 2 ^ 32 - 1
AllCame (Some most) came = most ≤ came

-- the door gave as many links as were asked for between these two counts of it
abbrev pub GaveAll : Option ℕ → ℕ → ℕ → Type 0
GaveAll None old new = Unit {0}
GaveAll (Some most) old new = old + most ≤ new

module _ {Ready Link Door Ends Waker : Type 0} where
  -- the bounds stay, and as many links are counted as the door gave
  pub record KeepsEntrance (gave : Door → ℕ) (old new : Entrance Ready Link Door Ends Waker) : Type 0 where
    pub bounds : new.bounds ≡ old.bounds
    pub counted : gave old.door + new.came ≡ gave new.door + old.came

  -- an entrance that was there is there still, and so is its count
  abbrev pub KeepsDoor : (Door → ℕ) → Option (Entrance Ready Link Door Ends Waker) → Option (Entrance Ready Link Door Ends Waker) → Type 0
  KeepsDoor gave None new = new ≡ None
  KeepsDoor gave (Some old) None = ⊥
  KeepsDoor gave (Some old) (Some new) = KeepsEntrance gave old new

  -- no further link is let in, where there is an entrance
  abbrev pub IsDoorDone : Option (Entrance Ready Link Door Ends Waker) → Type 0
  IsDoorDone None = Unit {0}
  IsDoorDone (Some entrance) = AllCame entrance.bounds.most entrance.came

  -- A loop that ended so kept its door; where it ended of itself no further link is let in.
  pub record AtDoor (gave : Door → ℕ) (end : LoopEnd) (old new : Option (Entrance Ready Link Door Ends Waker)) : Type 0 where
    pub keeps : KeepsDoor gave old new
    pub done : end ≡ Done → IsDoorDone new
