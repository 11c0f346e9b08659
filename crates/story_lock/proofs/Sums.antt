-- How often numbers stand in lists, and sums over views.
use Rattle.std.proofs.Common.{◌≡◌, ◌≢◌, ◌⊎◌, ℕ, zero, suc, ◌+◌, ◌<◌, ◌≤◌, max, eqb, eq-eqb, ne_eqb, List, [], ◌∷◌, ◌++◌, length, set, cond, Option, Some, None, refl, sym, ap, ◌∙◌, subst, inl, inr, ⊎_elim, arith, length-append, append-nil}
use Rattle.std.specs.Prelude.{slice_get, leb, true, false}
use Rattle.story_lock.specs.Rule.{longer, shorter}
use mathlib.Core.Logic.{dite}
use mathlib.Core.Option.{some, some-injective, some-ne-none}
use Rattle.std.proofs.lemmas.Bool.Decides.{leb_tells}
use native.Mathlib.Decide.{dec_lt, ℕ_discrete}
use lib.ListN.{get_elem?}
use Rattle.story_lock.specs.Counts.{times, total, numbers_from, greatest, without, StartsWith, Once}

pub one_at : (n k : ℕ) → ((n ≡ k) × (times k (n ∷ []) ≡ 1)) ⊎ ((n ≢ k) × (times k (n ∷ []) ≡ 0))
one_at n k = dite (ℕ_discrete n k) (λ e. inl (e, subst (λ b. cond b 1 0 + 0 ≡ 1) (sym (eq-eqb n k e)) refl)) (λ ne. inr (ne, subst (λ b. cond b 1 0 + 0 ≡ 0) (sym (ne_eqb n k ne)) refl))

pub times_here : (k : ℕ) → times k (k ∷ []) ≡ 1
times_here k = subst (λ b. cond b 1 0 + 0 ≡ 1) (sym (eq-eqb k k refl)) refl

pub times_append : (k : ℕ) (xs ys : List ℕ) → times k (xs ++ ys) ≡ times k xs + times k ys
times_append k [] ys = omega arith
times_append k (x ∷ xs) ys = let h = times_append k xs ys in omega arith

pub total_set : {V : Type 0} (f : V → ℕ) (vs : List V) (i : ℕ) (v w : V) → get_elem? vs i ≡ some v → total f (set vs i w) + f v ≡ total f vs + f w
total_set f [] i v w e = absurd (some-ne-none v (sym e))
total_set f (x ∷ xs) zero v w e = omega (arith, ap f (some-injective x v e))
total_set f (x ∷ xs) (suc i) v w e = let h = total_set f xs i v w e in omega arith

pub total_snoc : {V : Type 0} (f : V → ℕ) (vs : List V) (w : V) → total f (vs ++ w ∷ []) ≡ total f vs + f w
total_snoc f [] w = omega arith
total_snoc f (x ∷ xs) w = let h = total_snoc f xs w in omega arith

pub total_at : {V : Type 0} (f : V → ℕ) (vs : List V) (i : ℕ) (v : V) → get_elem? vs i ≡ some v → f v ≤ total f vs
total_at f [] i v e = absurd (some-ne-none v (sym e))
total_at f (x ∷ xs) zero v e = omega (arith, ap f (some-injective x v e))
total_at f (x ∷ xs) (suc i) v e = let h = total_at f xs i v e in omega arith

pub total_two : {V : Type 0} (f : V → ℕ) (vs : List V) (i j : ℕ) (v w : V) → i ≢ j → get_elem? vs i ≡ some v → get_elem? vs j ≡ some w → f v + f w ≤ total f vs
total_two f [] i j v w apart e e' = absurd (some-ne-none v (sym e))
total_two f (x ∷ xs) zero zero v w apart e e' = absurd (apart refl)
total_two f (x ∷ xs) zero (suc j) v w apart e e' = let h = total_at f xs j w e' in omega (arith, ap f (some-injective x v e))
total_two f (x ∷ xs) (suc i) zero v w apart e e' = let h = total_at f xs i v e in omega (arith, ap f (some-injective x w e'))
total_two f (x ∷ xs) (suc i) (suc j) v w apart e e' = let h = total_two f xs i j v w (λ s. apart (ap suc s)) e e' in omega arith

pub total_under : {V : Type 0} (f g : V → ℕ) (vs : List V) → ((j : ℕ) (u : V) → get_elem? vs j ≡ some u → f u ≤ g u) → total f vs ≤ total g vs
total_under f g [] le = omega arith
total_under f g (x ∷ xs) le = let h = total_under f g xs (λ j. le (suc j)) in let a = le zero x refl in omega arith

pub total_less : {V : Type 0} (f g : V → ℕ) (vs : List V) (i : ℕ) (v : V) → ((j : ℕ) (u : V) → get_elem? vs j ≡ some u → f u ≤ g u) → get_elem? vs i ≡ some v → total f vs + g v ≤ total g vs + f v
total_less f g [] i v le e = absurd (some-ne-none v (sym e))
total_less f g (x ∷ xs) zero v le e = let h = total_under f g xs (λ j. le (suc j)) in omega (arith, ap f (some-injective x v e), ap g (some-injective x v e))
total_less f g (x ∷ xs) (suc i) v le e = let h = total_less f g xs i v (λ j. le (suc j)) e in let a = le zero x refl in omega arith

pub total_none : {V : Type 0} (f : V → ℕ) (vs : List V) → ((j : ℕ) (u : V) → get_elem? vs j ≡ some u → f u ≡ 0) → total f vs ≡ 0
total_none f [] z = refl
total_none f (x ∷ xs) z = let h = total_none f xs (λ j. z (suc j)) in let a = z zero x refl in omega arith

pub once_le : (f : ℕ → ℕ) (low high : ℕ) → Once f low high → (k : ℕ) → f k ≤ 1
once_le f low high o k = dite (dec_lt k low) (λ a. let z = o.before k a in omega arith) (λ a. dite (dec_lt k high) (λ b. let z = o.inside k (omega arith) b in omega arith) (λ b. let z = o.after k (omega arith) in omega arith))

-- where f is not 0
pub once_in : (f : ℕ → ℕ) (low high : ℕ) → Once f low high → (k : ℕ) → 0 < f k → (low ≤ k) × (k < high)
once_in f low high o k p = dite (dec_lt k low) (λ a. let z = o.before k a in absurd (omega arith)) (λ a. dite (dec_lt k high) (λ b. (omega arith, b)) (λ b. let z = o.after k (omega arith) in absurd (omega arith)))

pub once_same : (f g : ℕ → ℕ) (low high : ℕ) → Once f low high → ((k : ℕ) → g k ≡ f k) → Once g low high
once_same f g low high o e = record { inside = λ k a b. e k ∙ o.inside k a b; before = λ k a. e k ∙ o.before k a; after = λ k a. e k ∙ o.after k a }

pub once_up : (f g : ℕ → ℕ) (low high : ℕ) → low ≤ high → Once f low high → ((k : ℕ) → g k ≡ f k + times k (high ∷ [])) → Once g low (high + 1)
once_up f g low high le o e = record {
  inside = λ k a b. let s = e k in ⊎_elim (λ (t : (high ≡ k) × (times k (high ∷ []) ≡ 1)). let z = o.after k (omega (arith, t.0)) in omega (arith, t.1)) (λ (t : (high ≢ k) × (times k (high ∷ []) ≡ 0)). let ne = t.0 in let z = o.inside k a (omega arith) in omega (arith, t.1)) (one_at high k);
  before = λ k a. let s = e k in ⊎_elim (λ (t : (high ≡ k) × (times k (high ∷ []) ≡ 1)). absurd (omega (arith, t.0))) (λ (t : (high ≢ k) × (times k (high ∷ []) ≡ 0)). let z = o.before k a in omega (arith, t.1)) (one_at high k);
  after = λ k a. let s = e k in ⊎_elim (λ (t : (high ≡ k) × (times k (high ∷ []) ≡ 1)). absurd (omega (arith, t.0))) (λ (t : (high ≢ k) × (times k (high ∷ []) ≡ 0)). let z = o.after k (omega arith) in omega (arith, t.1)) (one_at high k);
}

pub once_down : (f g : ℕ → ℕ) (low high : ℕ) → low < high → Once f low high → ((k : ℕ) → g k + times k (low ∷ []) ≡ f k) → Once g (low + 1) high
once_down f g low high le o e = record {
  inside = λ k a b. let s = e k in ⊎_elim (λ (t : (low ≡ k) × (times k (low ∷ []) ≡ 1)). absurd (omega (arith, t.0))) (λ (t : (low ≢ k) × (times k (low ∷ []) ≡ 0)). let z = o.inside k (omega arith) b in omega (arith, t.1)) (one_at low k);
  before = λ k a. let s = e k in ⊎_elim (λ (t : (low ≡ k) × (times k (low ∷ []) ≡ 1)). let z = o.inside k (omega (arith, t.0)) (omega (arith, t.0)) in omega (arith, t.1)) (λ (t : (low ≢ k) × (times k (low ∷ []) ≡ 0)). let ne = t.0 in let z = o.before k (omega arith) in omega (arith, t.1)) (one_at low k);
  after = λ k a. let s = e k in ⊎_elim (λ (t : (low ≡ k) × (times k (low ∷ []) ≡ 1)). absurd (omega (arith, t.0))) (λ (t : (low ≢ k) × (times k (low ∷ []) ≡ 0)). let z = o.after k a in omega (arith, t.1)) (one_at low k);
}

pub starts_length : {X : Type 0} (log xs : List X) → StartsWith log xs → length xs ≤ length log
starts_length log xs s = omega (arith, length-append xs s.0, ap length s.1)

-- appending is associative
pub append_three : {X : Type 0} (xs ys zs : List X) → (xs ++ ys) ++ zs ≡ xs ++ (ys ++ zs)
append_three [] ys zs = refl
append_three (x ∷ xs) ys zs = ap (λ l. x ∷ l) (append_three xs ys zs)

pub starts_longer : {X : Type 0} (log more xs : List X) → StartsWith log xs → StartsWith (log ++ more) xs
starts_longer log more xs s = (s.0 ++ more, ap (λ l. l ++ more) s.1 ∙ append_three xs s.0 more)

pub starts_itself : {X : Type 0} (log xs : List X) → xs ≡ log → StartsWith log xs
starts_itself log xs e = ([], sym e ∙ sym (append-nil xs))

abbrev rest_of : {X : Type 0} → List X → List X
rest_of [] = []
rest_of (z ∷ zs) = zs

abbrev first_or : {X : Type 0} → X → List X → X
first_or d [] = d
first_or d (z ∷ zs) = z

-- of two beginnings of one list the shorter begins the longer
pub starts_both : {X : Type 0} (xs ys p q : List X) → xs ++ p ≡ ys ++ q → length ys ≤ length xs → StartsWith xs ys
starts_both xs [] p q e le = (xs, refl)
starts_both [] (y ∷ ys) p q e le = absurd (omega arith)
starts_both (x ∷ xs) (y ∷ ys) p q e le = let t = starts_both xs ys p q (ap rest_of e) (omega arith) in (t.0, λ i. first_or x (e i) ∷ t.1 i)

abbrev value_or : {X : Type 0} → X → Option X → X
value_or d (Some x) = x
value_or d None = d

pub get_snoc : {X : Type 0} (xs : List X) (a b : X) (k : ℕ) → slice_get (xs ++ a ∷ []) k ≡ Some b → (slice_get xs k ≡ Some b) ⊎ ((k ≡ length xs) × (a ≡ b))
get_snoc [] a b zero e = inr (refl, ap (value_or a) e)
get_snoc [] a b (suc k) e = absurd (cc)
get_snoc (x ∷ xs) a b zero e = inl e
get_snoc (x ∷ xs) a b (suc k) e = ⊎_elim (λ (t : slice_get xs k ≡ Some b). inl t) (λ (t : (k ≡ length xs) × (a ≡ b)). inr (ap suc t.0, t.1)) (get_snoc xs a b k e)

-- a list of numbers that is not empty has some number
pub times_first : (xs : List ℕ) → 0 < length xs → (n : ℕ) × (0 < times n xs)
times_first [] p = absurd (omega arith)
times_first (x ∷ xs) p = (x, let h = times_here x in omega arith)

pub times_empty : (k : ℕ) (xs : List ℕ) → length xs ≡ 0 → times k xs ≡ 0
times_empty k [] e = refl
times_empty k (x ∷ xs) e = absurd (omega arith)

pub times_length : (k : ℕ) (xs : List ℕ) → 0 < times k xs → 0 < length xs
times_length k [] p = absurd (omega arith)
times_length k (x ∷ xs) p = omega arith

pub length_once : (xs : List ℕ) (n : ℕ) → length (xs ++ n ∷ []) ≡ length xs + 1
length_once xs n = omega (arith, length-append xs (n ∷ []))

pub length_snoc : {X : Type 0} (xs : List X) (x : X) → length (xs ++ x ∷ []) ≡ length xs + 1
length_snoc xs x = omega (arith, length-append xs (x ∷ []))

-- without one place of a number that represents in the list
pub times_without : (k n : ℕ) (xs : List ℕ) → 0 < times n xs → times k (without n xs) + times k (n ∷ []) ≡ times k xs
times_without k n [] p = absurd (omega arith)
times_without k n (x ∷ xs) p = dite (ℕ_discrete x n)
    (λ e. subst (λ b. times k (cond b xs (x ∷ without n xs)) + times k (n ∷ []) ≡ times k (x ∷ xs)) (sym (eq-eqb x n e)) (subst (λ (z : ℕ). times k xs + times k (n ∷ []) ≡ times k (z ∷ xs)) (sym e) (omega arith)))
    (λ ne. subst (λ b. times k (cond b xs (x ∷ without n xs)) + times k (n ∷ []) ≡ times k (x ∷ xs)) (sym (ne_eqb x n ne))
    (let q : cond {A = ℕ} (eqb x n) 1 0 ≡ 0 = subst (λ b. cond {A = ℕ} b 1 0 ≡ 0) (sym (ne_eqb x n ne)) refl in let h = times_without k n xs (omega arith) in omega arith))

pub length_without : (n : ℕ) (xs : List ℕ) → 0 < times n xs → length (without n xs) + 1 ≡ length xs
length_without n [] p = absurd (omega arith)
length_without n (x ∷ xs) p = dite (ℕ_discrete x n)
    (λ e. subst (λ b. length (cond b xs (x ∷ without n xs)) + 1 ≡ length (x ∷ xs)) (sym (eq-eqb x n e)) (omega arith))
    (λ ne. subst (λ b. length (cond b xs (x ∷ without n xs)) + 1 ≡ length (x ∷ xs)) (sym (ne_eqb x n ne))
    (let q : cond {A = ℕ} (eqb x n) 1 0 ≡ 0 = subst (λ b. cond {A = ℕ} b 1 0 ≡ 0) (sym (ne_eqb x n ne)) refl in let h = length_without n xs (omega arith) in omega arith))

-- the greatest represents in a list that is not empty
pub greatest_in : (xs : List ℕ) → 0 < length xs → 0 < times (greatest xs) xs
greatest_in [] p = absurd (omega arith)
greatest_in (x ∷ []) p = dite (ℕ_discrete x (max x 0)) (λ e. subst (λ b. 0 < cond b 1 0 + 0) (sym (eq-eqb x (max x 0) e)) (omega arith)) (λ ne. absurd (omega arith))
greatest_in (x ∷ y ∷ ys) p = let g : ℕ = greatest (y ∷ ys) in dite (ℕ_discrete x (max x g))
    (λ e. subst (λ b. 0 < cond b 1 0 + times (max x g) (y ∷ ys)) (sym (eq-eqb x (max x g) e)) (omega arith))
    (λ ne. let h = greatest_in (y ∷ ys) (omega arith) in let e : max x g ≡ g = omega arith in subst (λ (z : ℕ). 0 < cond (eqb x z) 1 0 + times z (y ∷ ys)) (sym e) (omega arith))

-- where the greatest is 0, each is 0
pub all_zero : (xs : List ℕ) → greatest xs ≡ 0 → times 0 xs ≡ length xs
all_zero [] e = refl
all_zero (x ∷ xs) e = let z : x ≡ 0 = omega arith in let h = all_zero xs (omega arith) in
    subst (λ b. cond b 1 0 + times 0 xs ≡ length (x ∷ xs)) (sym (eq-eqb x 0 z)) (omega arith)

pub numbers_once : (a n : ℕ) → Once (λ k. times k (numbers_from a n)) a (a + n)
numbers_once a zero = record { inside = λ k p q. absurd (omega arith); before = λ k p. refl; after = λ k p. refl }
numbers_once a (suc n) = let o = numbers_once (suc a) n in record {
  inside = λ k p q. ⊎_elim (λ (t : (a ≡ k) × (times k (a ∷ []) ≡ 1)). let z = o.before k (omega (arith, t.0)) in omega (arith, t.1)) (λ (t : (a ≢ k) × (times k (a ∷ []) ≡ 0)). let ne = t.0 in let z = o.inside k (omega arith) (omega arith) in omega (arith, t.1)) (one_at a k);
  before = λ k p. ⊎_elim (λ (t : (a ≡ k) × (times k (a ∷ []) ≡ 1)). absurd (omega (arith, t.0))) (λ (t : (a ≢ k) × (times k (a ∷ []) ≡ 0)). let z = o.before k (omega arith) in omega (arith, t.1)) (one_at a k);
  after = λ k p. ⊎_elim (λ (t : (a ≡ k) × (times k (a ∷ []) ≡ 1)). absurd (omega (arith, t.0))) (λ (t : (a ≢ k) × (times k (a ∷ []) ≡ 0)). let z = o.after k (omega arith) in omega (arith, t.1)) (one_at a k);
}

-- the longer and the shorter of two lists
pub by_length : {X : Type 0} (P : List X → List X → Type 0) (xs ys : List X) → (length xs ≤ length ys → P ys xs) → (length ys < length xs → P xs ys) → P (longer xs ys) (shorter xs ys)
by_length P xs ys small large = ⊎_elim
    (λ (t : (leb (length xs) (length ys) ≡ true) × (length xs ≤ length ys)). subst (λ b. P (cond b ys xs) (cond b xs ys)) (sym t.0) (small t.1))
    (λ (t : (leb (length xs) (length ys) ≡ false) × (length ys < length xs)). subst (λ b. P (cond b ys xs) (cond b xs ys)) (sym t.0) (large t.1))
    (leb_tells (length xs) (length ys))

pub length_from : (a n : ℕ) → length (numbers_from a n) ≡ n
length_from a zero = refl
length_from a (suc n) = ap suc (length_from (suc a) n)

-- what is left of two or more numbers
pub length_fewer : (xs : List ℕ) → 2 ≤ length xs → length (without (greatest xs) xs) + 1 ≡ length xs
length_fewer xs two = length_without (greatest xs) xs (greatest_in xs (omega arith))
