-- How long a message of a delay level waits.
use Rattle.std.specs.Prelude.{ℕ, ◌-◌, List, [], ◌∷◌, slice_index}

-- the milliseconds of the levels 1 to 18: 1s, 5s, 10s, 30s, 1m to 10m, 20m, 30m, 1h, 2h
abbrev pub delays : List ℕ
delays = 1000 ∷ 5000 ∷ 10000 ∷ 30000 ∷ 60000 ∷ 120000 ∷ 180000 ∷ 240000 ∷ 300000
    ∷ 360000 ∷ 420000 ∷ 480000 ∷ 540000 ∷ 600000 ∷ 1200000 ∷ 1800000 ∷ 3600000 ∷ 7200000 ∷ []

-- the milliseconds of a level from 1 to 18
unfoldable pub level_delay : ℕ → ℕ
level_delay level = slice_index delays (level - 1)
