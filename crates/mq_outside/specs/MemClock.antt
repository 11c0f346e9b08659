-- The clock in memory: a list of readings, the last of which is repeated.
use Rattle.std.specs.Prelude.{◌<◌, ◌-◌, ◌^◌, ℕ, List, length, map, min, slice_index}
use Rattle.std.specs.List.{All, range_with_len}

-- the reading of this number, from 0 on
abbrev pub reading_at : List ℕ → ℕ → ℕ
reading_at readings k = slice_index readings (min k (length readings - 1))

-- the first n readings
abbrev pub first_readings : List ℕ → ℕ → List ℕ
first_readings readings n = map (reading_at readings) (range_with_len 0 n)

-- each reading is below 2^62
abbrev pub AreReadings : List ℕ → Type 0
AreReadings = All (λ reading. reading < 2 ^ 62)
