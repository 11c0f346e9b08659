-- The numbers in texts, and the half messages that records name.
use Rattle.std.proofs.Common.{◌≡◌, refl, ap, sym, ◌∙◌, subst, arith, ℕ, ◌-◌, ◌<◌, ◌^◌, List, Bool, true, false, Option, Some, None}
use Rattle.std.specs.Prelude.{ℤ, pos, neg_ℤ, nat_lt, nat_le, ◌&&◌, not, ◌==◌, ◌||◌, IsSome, IfSome, length, drop, slice_index, option_map, if◌then◌else◌}
use Rattle.std.specs.Str.{all_ascii_digits}
use Rattle.std.specs.Str.Parse.{digits_value, starts_with_minus}
use Rattle.std.proofs.lemmas.Bool.{ltb-true, leb-true, and_parts, eqb-true, eq-eqb}
use Rattle.std.proofs.lemmas.Fmt.{decimal-digits_value}
use Rattle.std.proofs.lemmas.Str.Parse.{IsNumeralModel, numerals_by_value, tells_all_ascii_digits}
use Rattle.mq_bytes.specs.Decimal.{digits_of, decimal_value, number_up_to}
use Rattle.mq_bytes.proofs.DecimalLaws.{digits_of_are_plain, decimal_value-decimal}
use Rattle.log_model.specs.Admissible.{is_bare, low_number, number_in}

-- ---- a number below 2^62 that a bare text writes has that text

model : IsNumeralModel (λ ds. all_ascii_digits ds ≡ true) (digits_value 10)
model = numerals_by_value (λ ds. all_ascii_digits ds ≡ true) tells_all_ascii_digits

something : (a : Bool) (o : Option ℕ) → IsSome (if a then o else None) → a ≡ true
something true o is = refl
something false o is = absurd (cc)

by_parts : (a b c : Bool) (x : Option ℤ) (n : ℕ) → b ≡ false
    → IsSome (if a then low_number (if b then x else option_map pos (if c then Some n else None)) else None) → c ≡ true
by_parts a true c x n plain is = absurd (cc)
by_parts true false true x n plain is = refl
by_parts true false false x n plain is = absurd (cc)
by_parts false false c x n plain is = absurd (cc)

by_value : (a b c : Bool) (x : Option ℤ) (n : ℕ) → b ≡ false
    → IsSome (if a then low_number (if b then x else option_map pos (if c then Some n else None)) else None)
    → (if a then low_number (if b then x else option_map pos (if c then Some n else None)) else None) ≡ Some n
by_value a true c x n plain is = absurd (cc)
by_value true false true x n plain is = low (nat_lt n (2 ^ 62)) is
  where
    low : (b : Bool) → IsSome (if b then Some n else None) → (if b then Some n else None) ≡ Some n
    low true some = refl
    low false some = absurd (cc)
by_value true false false x n plain is = absurd (cc)
by_value false false c x n plain is = absurd (cc)

bare_parts : (a b c d : Bool) → (a && not b && (not c || d)) ≡ true → (a ≡ true) × (b ≡ false) × (c ≡ true → d ≡ true)
bare_parts true false true true is = (refl, refl, λ e. refl)
bare_parts true false false d is = (refl, refl, λ e. absurd (cc))
bare_parts true false true false is = absurd (cc)
bare_parts true true c d is = absurd (cc)
bare_parts false b c d is = absurd (cc)

-- the value of a number's text is the number
pub number_value : (k : ℕ) → k < 2 ^ 64 → digits_value 10 (digits_of k) ≡ k
number_value k low = (digits_of_are_plain k low).1

-- the text is the digits of its value
pub number_text : (text : List ℕ) → IsSome (number_in text) → (digits_value 10 text < 2 ^ 64) × (text ≡ digits_of (digits_value 10 text))
unfolding decimal_value
number_text text is =
    let bare = bare_parts (nat_lt 0 (length text)) (slice_index text 0 == 45) (slice_index text 0 == 48) (length text == 1)
    (something (is_bare text) (low_number (decimal_value text)) is) in
    let test = by_parts (is_bare text) (starts_with_minus text)
    (nat_lt 0 (length text) && all_ascii_digits text && nat_le (digits_value 10 text) (2 ^ 63 - 1))
    (option_map (λ n. neg_ℤ (pos n)) (number_up_to (2 ^ 63) (drop 1 text))) (digits_value 10 text) bare.1 is in
    let outer = and_parts (nat_lt 0 (length text) && all_ascii_digits text) (nat_le (digits_value 10 text) (2 ^ 63 - 1)) test in
    let digits = (and_parts (nat_lt 0 (length text)) (all_ascii_digits text) outer.0).1 in
    let low = leb-true (digits_value 10 text) (2 ^ 63 - 1) outer.1 in
    let small : digits_value 10 text < 2 ^ 64 = omega (arith, low) in (
      small,
      sym (decimal-digits_value model text digits (ltb-true 0 (length text) bare.0) (λ e. eqb-true (length text) 1 (bare.2 (eq-eqb (slice_index text 0) 48 e))) small),
    )

pub number_is : (text : List ℕ) → IsSome (number_in text) → number_in text ≡ Some (digits_value 10 text)
unfolding decimal_value
number_is text is =
    let bare = bare_parts (nat_lt 0 (length text)) (slice_index text 0 == 45) (slice_index text 0 == 48) (length text == 1)
    (something (is_bare text) (low_number (decimal_value text)) is) in
    by_value (is_bare text) (starts_with_minus text)
    (nat_lt 0 (length text) && all_ascii_digits text && nat_le (digits_value 10 text) (2 ^ 63 - 1))
    (option_map (λ n. neg_ℤ (pos n)) (number_up_to (2 ^ 63) (drop 1 text))) (digits_value 10 text) bare.1 is

-- a number below 1,024 is read as its value
pub number_read : (text : List ℕ) → IsSome (number_in text) → digits_value 10 text < 1024 → decimal_value text ≡ Some (pos (digits_value 10 text))
number_read text is low = ap decimal_value (number_text text is).1 ∙ decimal_value-decimal (pos (digits_value 10 text)) (omega (arith, low))

of_number : (bound : ℕ) (o : Option ℕ) (n : ℕ) → IfSome o (λ k. k < bound) → o ≡ Some n → n < bound
of_number bound o n low is = subst (λ (p : Option ℕ). IfSome p (λ k. k < bound)) is low

-- a number below a bound has that value
pub below_read : (text : List ℕ) (bound : ℕ) → IfSome (number_in text) (λ n. n < bound) × IsSome (number_in text) → digits_value 10 text < bound
below_read text bound is = of_number bound (number_in text) (digits_value 10 text) is.0 (number_is text is.1)
