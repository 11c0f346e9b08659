-- The counter of the tests goes on by one entry.
use Rattle.std.proofs.Common.{◌≡◌, ℕ, ◌+◌, ◌%◌, ◌^◌, List, [], ◌∷◌, ◌++◌, sym, subst}
use Rattle.story_lock.specs.Counting.{Counts}

-- one entry more
pub counts_snoc : (start : ℕ) (log : List (ℕ × ℕ)) (before amount said now : ℕ) → Counts start log before → said ≡ before → now ≡ (before + amount) % 2 ^ 64 → Counts start (log ++ (amount, said) ∷ []) now
counts_snoc start [] before amount said now all answer next = subst (λ (z : ℕ). Counts z ((amount, said) ∷ []) now) (sym all) (answer, sym next)
counts_snoc start (e ∷ es) before amount said now all answer next = (all.0, counts_snoc ((start + e.0) % 2 ^ 64) es before amount said now all.1 answer next)
