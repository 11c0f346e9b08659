-- The texts of numbers.
use Rattle.std.proofs.Common.{◌≡◌, ◌≢◌, ◌∙◌, inl, inr, refl, ap, sym, subst, arith, ℕ, zero, suc, ◌+◌, ◌/◌, ◌%◌, ◌<◌, ◌≤◌, Bool, true, false, List, [], ◌∷◌, length, Option, Some, pos}
use Rattle.std.specs.Prelude.{◌==◌, IfSome, if◌then◌else◌}
use Rattle.std.specs.Str.{bytes_eq}
use Rattle.std.specs.Str.Parse.{digits_value}
use Rattle.std.specs.Fmt.{digit_glyph, digits_onto, digits}
use Rattle.std.proofs.lemmas.Bool.{cases_lt, cases_Bool, ne_eqb}
use Rattle.std.proofs.lemmas.Fmt.{length-decimal-le}
use Rattle.std.proofs.lemmas.Slice.Eq.{bytes_eq-Decides}
use Rattle.mq_bytes.specs.Decimal.{digits_of, decimal_value}
use Rattle.mq_bytes.proofs.DecimalLaws.{digits_of_are_plain}
use Rattle.log_model.specs.Admissible.{IsLevel}
use Rattle.record_copies.proofs.NumberLemmas.{number_is, number_read, number_text}

-- no shorter than what stands behind
longer : (k n : ℕ) (rest : List ℕ) → length rest ≤ length (digits_onto k 10 false n rest)
longer zero n rest = omega arith
longer (suc k) n rest = by_test (n / 10 == 0) (let more = longer k (n / 10) (digit_glyph false (n % 10) ∷ rest) in omega (arith, more))
  where
    by_test : (b : Bool) → length rest + 1 ≤ length (digits_onto k 10 false (n / 10) (digit_glyph false (n % 10) ∷ rest))
        → length rest ≤ length (if b then digit_glyph false (n % 10) ∷ rest else digits_onto k 10 false (n / 10) (digit_glyph false (n % 10) ∷ rest))
    by_test true more = omega arith
    by_test false more = omega (arith, more)

one_more : (k n : ℕ) (rest : List ℕ) → 10 ≤ n → digits_onto (suc k) 10 false n rest ≡ digits_onto k 10 false (n / 10) (digit_glyph false (n % 10) ∷ rest)
one_more k n rest more =
    ap (λ (b : Bool). if b then digit_glyph false (n % 10) ∷ rest else digits_onto k 10 false (n / 10) (digit_glyph false (n % 10) ∷ rest))
    (ne_eqb (n / 10) 0 (λ e. omega (arith, e, more)))

one_at_least : (k n : ℕ) (rest : List ℕ) → 1 + length rest ≤ length (digits_onto (suc k) 10 false n rest)
one_at_least k n rest = by_test (n / 10 == 0)
  where
    by_test : (b : Bool) → 1 + length rest ≤ length (if b then digit_glyph false (n % 10) ∷ rest else digits_onto k 10 false (n / 10) (digit_glyph false (n % 10) ∷ rest))
    by_test true = omega arith
    by_test false = let more = longer k (n / 10) (digit_glyph false (n % 10) ∷ rest) in omega (arith, more)

-- a number from 100 has three digits at least
three : (n : ℕ) → 100 ≤ n → 3 ≤ length (digits_of n)
unfolding digits
three n more =
    let first = ap (λ (ds : List ℕ). length ds) (one_more 63 n [] (omega (arith, more))) in
    let second = ap (λ (ds : List ℕ). length ds) (one_more 62 (n / 10) (digit_glyph false (n % 10) ∷ []) (omega (arith, more))) in
    let third = one_at_least 61 (n / 10 / 10) (digit_glyph false (n / 10 % 10) ∷ digit_glyph false (n % 10) ∷ []) in
    omega (arith, first, second, third)

same_text : (a b : List ℕ) → bytes_eq a b ≡ true → a ≡ b
same_text a b is = (bytes_eq-Decides a b).0 is

text_equal : (a : List ℕ) → bytes_eq a a ≡ true
text_equal a = (bytes_eq-Decides a a).1 refl

-- the text of a level is that of no other number
pub other_text : (level other : ℕ) → level < 100 → other ≢ level → bytes_eq (digits_of level) (digits_of other) ≡ false
other_text level other low differs = elim (cases_Bool (bytes_eq (digits_of level) (digits_of other))) [
  | inl same ↦ absurd (elim (cases_lt other 100) [
    | inl less ↦ differs (sym (digits_of_are_plain other (omega (arith, less))).1
        ∙ ap (λ (ds : List ℕ). digits_value 10 ds) (sym (same_text (digits_of level) (digits_of other) same))
        ∙ (digits_of_are_plain level (omega (arith, low))).1)
    | inr more ↦
        (let long = three other more in
        let short = length-decimal-le 2 level (omega arith) (omega (arith, low)) (omega (arith, low)) in
        let equal = ap (λ (ds : List ℕ). length ds) (same_text (digits_of level) (digits_of other) same) in
        omega (arith, long, short, equal))
  ])
  | inr apart ↦ apart
]

-- ---- a level

-- the number of a level, as it is read and written
pub record LevelText (text : List ℕ) : Type 0 where
  pub level : ℕ
  pub low : 1 ≤ level
  pub high : level ≤ 18
  pub read : decimal_value text ≡ Some (pos level)
  pub written : text ≡ digits_of level

pub level_text : (text : List ℕ) → IsLevel text → LevelText text
level_text text is =
    let bounds = subst (λ (o : Option ℕ). IfSome o (λ n. (1 ≤ n) × (n ≤ 18))) (number_is text is.1) is.0 in
    record {
      level = digits_value 10 text;
      low = bounds.0;
      high = bounds.1;
      read = number_read text is.1 (let high = bounds.1 in omega (arith, high));
      written = (number_text text is.1).1;
    }
