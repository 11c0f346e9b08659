-- Decimal text: what `parse` reads of it, and that what is written reads back.
use Rattle.std.proofs.Common.{◌≡◌, ◌≢◌, ℕ, suc, ◌-◌, ◌<◌, ◌≤◌, ◌^◌, Bool, true, false, ◌&&◌, cond, eqb, ltb, leb, List, [], ◌∷◌, length, get_or, drop, ℤ, pos, negsuc, neg_ℤ, Some, None, Result, Ok, Err, Decides, refl, sym, ap, ◌∙◌, arith}
use Rattle.std.specs.Option.{option_map}
use Rattle.std.specs.Result.{OkIff, result_ok}
use Rattle.std.specs.Int.{w64}
use Rattle.std.specs.Int.RustNames.{FitsSigned}
use Rattle.std.specs.Str.{all_ascii_digits}
use Rattle.std.specs.Str.Parse.{ParsesSigned, IsNumeral, starts_with_minus, digits_value}
use Rattle.std.proofs.lemmas.Bool.{eqb-true, eqb-false, and_parts}
use Rattle.std.proofs.lemmas.Bool.Decides.{nat_tests}
use Rattle.std.proofs.lemmas.Str.Parse.{IsNumeralModel, numerals_by_value, tells_all_ascii_digits, parse_signed_minus, parse_signed_plain, digit_at}
use Rattle.std.proofs.lemmas.Fmt.{decimal_is_IsNumeral, first_decimal}
use Rattle.mq_bytes.specs.Decimal.{digits_of, decimal, number_up_to, decimal_value}

model : IsNumeralModel (λ ds. all_ascii_digits ds ≡ true) (digits_value 10)
model = numerals_by_value (λ ds. all_ascii_digits ds ≡ true) tells_all_ascii_digits

-- a result that is `Ok` just where a test passes
tested : {E : Type 0} (r : Result ℤ E) (P : Type 0) (b : Bool) (v : ℤ) → OkIff r P v → Decides b P → result_ok r ≡ cond b (Some v) None
tested (Ok x) P true v h d = ap Some h.1
tested (Ok x) P false v h d = let e : false ≡ true = d.1 h.0 in cc
tested (Err e) P true v h d = absurd (h (d.0 refl))
tested (Err e) P false v h d = refl

mapped : (f : ℕ → ℤ) (b : Bool) (n : ℕ) → option_map f (cond b (Some n) None) ≡ cond b (Some (f n)) None
mapped f true n = refl
mapped f false n = refl

never : (a b : Bool) → (a && false && b) ≡ false
never true b = refl
never false b = refl

-- the test of `number_up_to`
abbrev is_number_up_to : ℕ → List ℕ → Bool
is_number_up_to most ds = ltb 0 (length ds) && all_ascii_digits ds && leb (digits_value 10 ds) most

decides : (most : ℕ) (ds : List ℕ) (P : Type 0) → (P → (all_ascii_digits ds ≡ true) × (0 < length ds) × (digits_value 10 ds ≤ most))
    → ((all_ascii_digits ds ≡ true) × (0 < length ds) × (digits_value 10 ds ≤ most) → P) → Decides (is_number_up_to most ds) P
decides most ds P to from = (
  λ e. from (let outer = and_parts (ltb 0 (length ds) && all_ascii_digits ds) (leb (digits_value 10 ds) most) e in
      let inner = and_parts (ltb 0 (length ds)) (all_ascii_digits ds) outer.0 in
      let some = inner.0 in let within = outer.1 in
      (inner.1, grind (arith, nat_tests), grind (arith, nat_tests))),
  λ p. let h = to p in
      let digits = h.0 in let some = h.1 in let within = h.2 in
      let a : ltb 0 (length ds) ≡ true = grind (arith, nat_tests) in
      let b : leb (digits_value 10 ds) most ≡ true = grind (arith, nat_tests) in
      rw (a, digits, b) refl,
)

-- the two cases of the sign
by_sign : {E : Type 0} (text : List ℕ) (r : Result ℤ E) → get_or text 0 0 ≢ 43 → ParsesSigned w64 10 text r → (b : Bool) → eqb (get_or text 0 0) 45 ≡ b →
    result_ok r ≡ cond b (option_map (λ n. neg_ℤ (pos n)) (number_up_to (2 ^ 63) (drop 1 text))) (option_map pos (number_up_to (2 ^ 63 - 1) text))
by_sign text r no_plus h true e =
    let minus = parse_signed_minus model w64 text r h (eqb-true _ _ e) in
    tested r _ (is_number_up_to (2 ^ 63) (drop 1 text)) _ minus (decides (2 ^ 63) (drop 1 text) _ (λ p. p) (λ p. p))
    ∙ sym (mapped (λ n. neg_ℤ (pos n)) (is_number_up_to (2 ^ 63) (drop 1 text)) (digits_value 10 (drop 1 text)))
by_sign text r no_plus h false e =
    let plain = parse_signed_plain model w64 text r h no_plus (eqb-false _ _ e) in
    tested r _ (is_number_up_to (2 ^ 63 - 1) text) _ plain (decides (2 ^ 63 - 1) text _ (λ p. (p.0, p.1, omega (arith, p.2))) (λ p. (p.0, p.1, omega (arith, p.2))))
    ∙ sym (mapped pos (is_number_up_to (2 ^ 63 - 1) text) (digits_value 10 text))

-- what `parse` gives of a text without a leading `+`
pub decimal_value-parsed : {E : Type 0} (text : List ℕ) (r : Result ℤ E) → get_or text 0 0 ≢ 43 → ParsesSigned w64 10 text r → result_ok r ≡ decimal_value text
unfolding decimal_value
decimal_value-parsed text r no_plus h = by_sign text r no_plus h (eqb (get_or text 0 0) 45) refl

plus_is_no_digit : (text : List ℕ) → get_or text 0 0 ≡ 43 → all_ascii_digits text ≡ false
plus_is_no_digit [] e = absurd (omega (arith, e))
plus_is_no_digit (b ∷ text) e = rw e refl

-- a text that begins with `+` is no number
pub decimal_value-plus : (text : List ℕ) → get_or text 0 0 ≡ 43 → decimal_value text ≡ None
unfolding decimal_value
decimal_value-plus text e =
    let fails : is_number_up_to (2 ^ 63 - 1) text ≡ false = rw (plus_is_no_digit text e) (never (ltb 0 (length text)) (leb (digits_value 10 text) (2 ^ 63 - 1))) in
    rw (e, fails) refl

-- ---- what is written reads back

-- the digits of a number read as it
number_up_to-digits_of : (most n : ℕ) → n < 2 ^ 64 → n ≤ most → number_up_to most (digits_of n) ≡ Some n
number_up_to-digits_of most n small within =
    let numeral = decimal_is_IsNumeral n small in
    let digits = model.from (digits_of n) numeral.0.1 in
    let some = numeral.0.0 in
    let value = numeral.1 in
    let a : ltb 0 (length (digits_of n)) ≡ true = grind (arith, nat_tests) in
    let b : leb n most ≡ true = grind (arith, nat_tests) in
    rw (a, digits, value, b) refl

no_minus : (n : ℕ) → n < 2 ^ 64 → starts_with_minus (digits_of n) ≡ false
no_minus n small =
    let numeral = decimal_is_IsNumeral n small in
    let first = digit_at (digits_of n) 0 numeral.0.1 numeral.0.0 in
    let apart : get_or (digits_of n) 0 0 ≡ 45 → ⊥ = λ e. absurd (omega (arith, first, e)) in
    grind (arith, nat_tests)

pub decimal_value-decimal : (z : ℤ) → FitsSigned w64 z → decimal_value (decimal z) ≡ Some z
unfolding decimal_value
decimal_value-decimal (pos n) fits =
    let small : n < 2 ^ 63 = fits.sfits in
    rw (no_minus n (omega arith), number_up_to-digits_of (2 ^ 63 - 1) n (omega arith) (omega arith)) refl
decimal_value-decimal (negsuc n) fits =
    let small : n < 2 ^ 63 = fits.sfits in
    rw (number_up_to-digits_of (2 ^ 63) (suc n) (omega arith) (omega arith)) refl

-- digits alone, the number that they write, and no leading zero
pub digits_of_are_plain : (n : ℕ) → n < 2 ^ 64 → IsNumeral 10 (digits_of n) × (digits_value 10 (digits_of n) ≡ n) × (0 < n → 48 < get_or (digits_of n) 0 0)
digits_of_are_plain n small = let numeral = decimal_is_IsNumeral n small in (numeral.0, numeral.1, λ some. first_decimal n some small)
