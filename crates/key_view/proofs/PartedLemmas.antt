-- Rows of which the last stand apart.
use Rattle.std.proofs.Common.{◌≡◌, ◌∙◌, ℕ, zero, suc, ◌+◌, ◌-◌, ◌<◌, ◌≤◌, min, not, cond, Bool, true, false, List, [], ◌∷◌, ◌++◌, length, drop, refl, ap, arith}
use Rattle.std.specs.List.{position_or_len}

-- the first ones are dropped from the front, and as many of the others as are left to drop
pub drop_both : {A : Type 0} (n w : ℕ) (xs ys : List A) → w ≡ min n (length xs) → drop w xs ++ drop (n - w) ys ≡ drop n (xs ++ ys)
drop_both zero zero xs ys e = refl
drop_both zero (suc w) xs ys e = absurd (omega (arith, e))
drop_both (suc n) zero [] ys e = ap (λ k. drop k ys) (let whole : suc n - 0 ≡ suc n = omega arith in whole)
drop_both (suc n) zero (x ∷ xs) ys e = absurd (omega (arith, e))
drop_both (suc n) (suc w) [] ys e = absurd (omega (arith, e))
drop_both (suc n) (suc w) (x ∷ xs) ys e =
    ap (λ k. drop w xs ++ drop k ys) (let same : suc n - suc w ≡ n - w = omega arith in same) ∙ drop_both n w xs ys (omega (arith, e))

front_by : (b : Bool) (m n len : ℕ) → (n < len → m ≡ n) → cond (not b) (1 + n) 0 < suc len → cond (not b) (1 + m) 0 ≡ cond (not b) (1 + n) 0
front_by true m n len rest low = refl
front_by false m n len rest low = ap (λ k. 1 + k) (rest (omega (arith, low)))

-- the first that passes is among the first ones
pub first_front : {A : Type 0} (p : A → Bool) (xs ys : List A) → position_or_len p xs < length xs → position_or_len p (xs ++ ys) ≡ position_or_len p xs
first_front p [] ys low = absurd (omega (arith, low))
first_front p (x ∷ xs) ys low = front_by (p x) (position_or_len p (xs ++ ys)) (position_or_len p xs) (length xs) (first_front p xs ys) low

behind_by : (b : Bool) (m n len k : ℕ) → (len ≤ n → m ≡ len + k) → suc len ≤ cond (not b) (1 + n) 0 → cond (not b) (1 + m) 0 ≡ suc len + k
behind_by true m n len k rest past = absurd (omega (arith, past))
behind_by false m n len k rest past = (let same = rest (omega (arith, past)) in omega (arith, same))

-- or it is behind them
pub first_behind : {A : Type 0} (p : A → Bool) (xs ys : List A) → length xs ≤ position_or_len p xs → position_or_len p (xs ++ ys) ≡ length xs + position_or_len p ys
first_behind p [] ys past = omega arith
first_behind p (x ∷ xs) ys past = behind_by (p x) (position_or_len p (xs ++ ys)) (position_or_len p xs) (length xs) (position_or_len p ys) (first_behind p xs ys) past
