-- The files of a log stand in byte order as they stand in the log.
use Rattle.std.proofs.Common.{◌≡◌, ⊎_elim, ℕ, zero, suc, ◌+◌, ◌*◌, ◌/◌, ◌%◌, ◌^◌, ◌<◌, ◌≤◌, List, [], ◌∷◌, ◌++◌, codes, IsTrue, Ordering, Less, Equal, Greater, refl, sym, ◌∙◌, ap, subst, arith, lt-ltb, eq-eqb, le-ltb}
use Rattle.std.proofs.lemmas.Bool.{cond-true, cond-false, cases_eq, cases_lt}
use Rattle.std.proofs.Math.Nat.{div-div-eq-div-mul, div-add-mod, div-lt_iff_lt-mul, div-mul-le_self, div-eq_of_lt}
use Rattle.std.specs.Ordering.{nat_cmp, is_lt, ordering_then, ordering_reverse}
use Rattle.std.proofs.lemmas.Cmp.{nat_list_cmp_total}
use Rattle.std.specs.Cmp.Lexicographic.{slice_cmp}
use Rattle.mq_bytes.specs.Names.{digit_at, twenty_digits, log_file}

-- in byte order
abbrev pub Precedes : List ℕ → List ℕ → Type 0
Precedes a b = IsTrue (is_lt (slice_cmp nat_cmp a b))

not_reversed : (o : Ordering) → IsTrue (is_lt o) → IsTrue (is_lt (ordering_reverse o)) → ⊥
not_reversed Less less more = absurd (cc)
not_reversed Equal less more = absurd (cc)
not_reversed Greater less more = absurd (cc)

-- of two names one comes first
pub precede_once : (a b : List ℕ) → Precedes a b → Precedes b a → ⊥
precede_once a b less more = not_reversed (slice_cmp nat_cmp b a) more
    (subst (λ (o : Ordering). IsTrue (is_lt o)) (nat_list_cmp_total.antisymm a b) less)

first_less : (x y : ℕ) (xs ys : List ℕ) → x < y → Precedes (x ∷ xs) (y ∷ ys)
first_less x y xs ys less = subst (λ (o : Ordering). IsTrue (is_lt (ordering_then o (slice_cmp nat_cmp xs ys)))) (sym (cond-true _ Less _ (lt-ltb x y less))) refl

first_same : (x y : ℕ) (xs ys : List ℕ) → x ≡ y → Precedes xs ys → Precedes (x ∷ xs) (y ∷ ys)
first_same x y xs ys same rest =
    let is : nat_cmp x y ≡ Equal = cond-false _ Less _ (le-ltb x y (omega (arith, same))) ∙ cond-true _ Equal Greater (eq-eqb x y same) in
    subst (λ (o : Ordering). IsTrue (is_lt (ordering_then o (slice_cmp nat_cmp xs ys)))) (sym is) rest

front_same : (front xs ys : List ℕ) → Precedes xs ys → Precedes (front ++ xs) (front ++ ys)
front_same [] xs ys rest = rest
front_same (x ∷ front) xs ys rest = first_same x x (front ++ xs) (front ++ ys) refl (front_same front xs ys rest)

ten_to : ℕ → ℕ
ten_to zero = 1
ten_to (suc k) = ten_to k * 10

ten_to_some : (k : ℕ) → 0 < ten_to k
unfolding ten_to
ten_to_some zero = omega arith
ten_to_some (suc k) = omega (arith, ten_to_some k)

quotients : (a b p : ℕ) → 0 < p → a ≤ b → a / p ≤ b / p
quotients a b p some low = ⊎_elim
    (λ (less : b / p < a / p). absurd (omega (arith, low, (div-lt_iff_lt-mul {k = p} {x = b} {y = a / p} some).0 less, div-mul-le_self a p)))
    (λ (more : a / p ≤ b / p). more)
    (cases_lt (b / p) (a / p))

-- the last k digits
last_digits : ℕ → ℕ → List ℕ
last_digits zero n = []
last_digits (suc k) n = digit_at n (ten_to k) ∷ last_digits k n

digits_precede : (k a b : ℕ) → a < b → a / ten_to k ≡ b / ten_to k → Precedes (last_digits k a) (last_digits k b)
unfolding ten_to last_digits
digits_precede zero a b less above = absurd (omega (arith, less, above))
digits_precede (suc k) a b less above =
    let p : ℕ = ten_to k in
    let tens : a / p / 10 ≡ b / p / 10 = div-div-eq-div-mul a p 10 ∙ above ∙ sym (div-div-eq-div-mul b p 10) in
    let grows : a / p ≤ b / p = quotients a b p (ten_to_some k) (omega (arith, less)) in
    ⊎_elim
    (λ (same : a / p ≡ b / p). first_same (digit_at a p) (digit_at b p) (last_digits k a) (last_digits k b) (ap (λ (n : ℕ). 48 + n % 10) same) (digits_precede k a b less same))
    (λ (apart : a / p ≡ b / p → ⊥).
    first_less (digit_at a p) (digit_at b p) (last_digits k a) (last_digits k b) (omega (arith, div-add-mod (a / p) 10, div-add-mod (b / p) 10, tens, grows, apart)))
    (cases_eq (a / p) (b / p))

twenty_are : (n : ℕ) → twenty_digits n ≡ last_digits 20 n
unfolding twenty_digits ten_to last_digits
twenty_are n = refl

twenty_low : (n : ℕ) → n < 2 ^ 64 → n / ten_to 20 ≡ 0
unfolding ten_to
twenty_low n low = div-eq_of_lt (omega (arith, low))

pub files_precede : (a b : ℕ) → a < b → b < 2 ^ 64 → Precedes (log_file a) (log_file b)
unfolding log_file
files_precede a b less low = front_same (codes "commitlog/") (twenty_digits a) (twenty_digits b)
    (subst (λ (l : List ℕ). Precedes l (twenty_digits b)) (sym (twenty_are a)) (subst (λ (l : List ℕ). Precedes (last_digits 20 a) l) (sym (twenty_are b)) (digits_precede 20 a b less (twenty_low a (omega (arith, less, low)) ∙ sym (twenty_low b low)))))
