-- The delays of all levels are short.
use Rattle.std.proofs.Common.{◌≡◌, ℕ, zero, suc, ◌-◌, ◌^◌, ◌<◌, List, [], ◌∷◌, get_or, Bool, true, ◌&&◌, ltb, refl, arith}
use Rattle.std.proofs.lemmas.Bool.{and_parts, ltb-true}
use Rattle.mq_bytes.specs.Delays.{delays, level_delay}

-- each number is below 2^32
all_short : List ℕ → Bool
all_short [] = true
all_short (d ∷ ds) = ltb d (2 ^ 32) && all_short ds

-- so is the number at each place
short_at : (ds : List ℕ) (i : ℕ) → all_short ds ≡ true → get_or ds i 0 < 2 ^ 32
unfolding all_short
short_at [] i h = omega arith
short_at (d ∷ ds) zero h = ltb-true d (2 ^ 32) (and_parts (ltb d (2 ^ 32)) (all_short ds) h).0
short_at (d ∷ ds) (suc i) h = short_at ds i (and_parts (ltb d (2 ^ 32)) (all_short ds) h).1

-- the delay of each level is below 2^32
pub delay_low : (level : ℕ) → level_delay level < 2 ^ 32
unfolding level_delay all_short
delay_low level = short_at delays (level - 1) refl
