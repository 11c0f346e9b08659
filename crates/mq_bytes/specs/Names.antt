-- The names of the files of a log.
use Rattle.std.specs.Prelude.{ℕ, ◌+◌, ◌/◌, ◌%◌, List, [], ◌∷◌, ◌++◌, codes}

-- the digit of n that is worth p, a power of ten
abbrev pub digit_at : ℕ → ℕ → ℕ
digit_at n p = 48 + n / p % 10

-- n in 20 decimal digits
unfoldable pub twenty_digits : ℕ → List ℕ
twenty_digits n = digit_at n 10000000000000000000 ∷ digit_at n 1000000000000000000 ∷ digit_at n 100000000000000000
    ∷ digit_at n 10000000000000000
    ∷ digit_at n 1000000000000000 ∷ digit_at n 100000000000000 ∷ digit_at n 10000000000000 ∷ digit_at n 1000000000000
    ∷ digit_at n 100000000000 ∷ digit_at n 10000000000 ∷ digit_at n 1000000000 ∷ digit_at n 100000000
    ∷ digit_at n 10000000 ∷ digit_at n 1000000 ∷ digit_at n 100000 ∷ digit_at n 10000
    ∷ digit_at n 1000 ∷ digit_at n 100 ∷ digit_at n 10 ∷ digit_at n 1 ∷ []

-- the path of the log's file that begins at this place
unfoldable pub log_file : ℕ → List ℕ
log_file base = codes "commitlog/" ++ twenty_digits base
