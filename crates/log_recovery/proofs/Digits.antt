-- What the digits in a file's name say.
use Rattle.std.proofs.Common.{◌≡◌, ◌∙◌, ℕ, ◌-◌, ◌+◌, ◌*◌, ◌/◌, ◌%◌, ◌^◌, ◌<◌, ◌≤◌, ◌&&◌, List, [], ◌∷◌, length, drop, codes, true, false, Some, None, pos, refl, ap, arith, le-leb, lt-ltb}
use Rattle.std.specs.List.{AllByRecursion}
use Rattle.std.specs.Option.{option_map}
use Rattle.std.specs.Str.{all_ascii_digits, IsUtf8}
use Rattle.std.specs.Str.Parse.{digits_value, starts_with_minus}
use Rattle.std.proofs.lemmas.Bool.{cond-true, cond-false, ne_eqb}
use Rattle.std.proofs.lemmas.List.{drop_at}
use Rattle.std.proofs.lemmas.Str.{IsUtf8-from_ascii}
use Rattle.std.proofs.lemmas.Nat.{mod-mul-add}
use Rattle.std.proofs.Math.Nat.{mul-lt-mul_of_pos_right, div-lt_iff_lt-mul, div-add-mod}
use Rattle.mq_bytes.specs.Names.{digit_at, twenty_digits, log_file}
use Rattle.mq_bytes.specs.Decimal.{decimal_value, number_up_to}
use Rattle.mq_bytes.proofs.NameLaws.{twenty_digits-value, twenty_digits_are_ascii}

-- a decimal digit
abbrev IsDigit : ℕ → Type 0
IsDigit b = (48 ≤ b) × (b ≤ 57)

all_digits : (text : List ℕ) → AllByRecursion IsDigit text → all_ascii_digits text ≡ true
all_digits [] are = refl
all_digits (b ∷ text) are = λ i. (le-leb 48 b are.0.0 i && le-leb b 57 are.0.1 i) && all_digits text are.1 i

is_digit : (n p : ℕ) → IsDigit (digit_at n p)
is_digit n p = (omega arith, omega arith)

pub digits_all : (n : ℕ) → all_ascii_digits (twenty_digits n) ≡ true
unfolding twenty_digits
digits_all n = all_digits (twenty_digits n) (is_digit n 10000000000000000000, (is_digit n 1000000000000000000, (is_digit n 100000000000000000, (is_digit n 10000000000000000, (is_digit n 1000000000000000, (is_digit n 100000000000000, (is_digit n 10000000000000, (is_digit n 1000000000000, (is_digit n 100000000000, (is_digit n 10000000000, (is_digit n 1000000000, (is_digit n 100000000, (is_digit n 10000000, (is_digit n 1000000, (is_digit n 100000, (is_digit n 10000, (is_digit n 1000, (is_digit n 100, (is_digit n 10, (is_digit n 1, tt))))))))))))))))))))

no_minus : (n : ℕ) → starts_with_minus (twenty_digits n) ≡ false
unfolding twenty_digits
no_minus n = ne_eqb (digit_at n 10000000000000000000) 45 (λ is. omega (arith, is))

twenty : (n : ℕ) → length (twenty_digits n) ≡ 20
unfolding twenty_digits
twenty n = refl

number : (n : ℕ) → n < 2 ^ 63 → number_up_to (2 ^ 63 - 1) (twenty_digits n) ≡ Some n
number n low =
    let value : digits_value 10 (twenty_digits n) ≡ n = twenty_digits-value n (omega (arith, low)) in
    cond-true _ (Some (digits_value 10 (twenty_digits n))) None
    (λ i. (lt-ltb 0 (length (twenty_digits n)) (omega (arith, twenty n)) i && digits_all n i) && le-leb (digits_value 10 (twenty_digits n)) (2 ^ 63 - 1) (omega (arith, value, low)) i)
    ∙ ap (λ (m : ℕ). Some m) value

-- the digits of a name write its number
pub digits_write : (n : ℕ) → n < 2 ^ 63 → decimal_value (twenty_digits n) ≡ Some (pos n)
unfolding decimal_value
digits_write n low = cond-false (starts_with_minus (twenty_digits n)) _ _ (no_minus n) ∙ ap (option_map pos) (number n low)

-- and stand behind the folder's name
pub name_digits : (n : ℕ) → drop 10 (log_file n) ≡ twenty_digits n
unfolding log_file
name_digits n = drop_at (codes "commitlog/") (twenty_digits n) 10 refl

-- they are text
pub digits_text : (n : ℕ) → IsUtf8 (twenty_digits n)
digits_text n = IsUtf8-from_ascii (twenty_digits n) (twenty_digits_are_ascii n)

-- ---- the file of a segment before the base

-- where segment k begins is at the offset 0
pub start_of : (S k n : ℕ) → 0 < S → n ≡ k * S → n % S ≡ 0
start_of S k n some is = let plain : n ≡ k * S + 0 = omega (arith, is) in ap (λ (m : ℕ). m % S) plain ∙ mod-mul-add k S 0 some

-- such a segment is before the base
pub before_base : (S place k : ℕ) → 0 < S → place ≡ place / S * S → k < place / S → k * S < place
before_base S place k some begins low = omega (arith, begins, mul-lt-mul_of_pos_right low some)

-- what begins there before the base is such a segment
pub segment_before : (S place n : ℕ) → 0 < S → place ≡ place / S * S → n < place → n % S ≡ 0 → (n / S < place / S) × (n / S * S ≡ n)
segment_before S place n some begins low start = (
  (div-lt_iff_lt-mul {k = S} {x = n} {y = place / S} some).1 (omega (arith, low, begins)),
  omega (arith, div-add-mod n S, start),
)
