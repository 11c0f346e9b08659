-- How often a number is in a list, sums over all views, and lists that begin with others.
use Rattle.std.specs.Prelude.{◌≡◌, ℕ, zero, suc, ◌+◌, ◌<◌, ◌≤◌, eqb, max, List, [], ◌∷◌, ◌++◌, cond}

-- how often k is in the list
abbrev pub times : ℕ → List ℕ → ℕ
times k [] = 0
times k (x ∷ xs) = cond (eqb x k) 1 0 + times k xs

-- f of each view, added up
abbrev pub total : {V : Type 0} → (V → ℕ) → List V → ℕ
total f [] = 0
total f (v ∷ vs) = f v + total f vs

-- n numbers from a on
abbrev pub numbers_from : ℕ → ℕ → List ℕ
numbers_from a zero = []
numbers_from a (suc n) = a ∷ numbers_from (suc a) n

-- the numbers below n
abbrev pub numbers_below : ℕ → List ℕ
numbers_below n = numbers_from 0 n

-- the greatest number of a list, 0 where it is empty
abbrev pub greatest : List ℕ → ℕ
greatest [] = 0
greatest (x ∷ xs) = max x (greatest xs)

-- the list without the first k in it
abbrev pub without : ℕ → List ℕ → List ℕ
without k [] = []
without k (x ∷ xs) = cond (eqb x k) xs (x ∷ without k xs)

-- the list begins with xs
abbrev pub StartsWith : {E : Type 0} → List E → List E → Type 0
StartsWith {E} log xs = (rest : List E) × (log ≡ xs ++ rest)

-- f is 1 of each number from low up to below high, and else 0
pub record Once (f : ℕ → ℕ) (low high : ℕ) : Type 0 where
  pub inside : (k : ℕ) → low ≤ k → k < high → f k ≡ 1
  pub before : (k : ℕ) → k < low → f k ≡ 0
  pub after : (k : ℕ) → high ≤ k → f k ≡ 0

-- no number is in the list twice
abbrev pub IsDistinct : List ℕ → Type 0
IsDistinct ns = (k : ℕ) → times k ns ≤ 1
